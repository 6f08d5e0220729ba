-- Needs, shifted and not.
use Rattle.std.proofs.Common.{◌≡◌, ℕ, ◌<◌, ◌≤◌, List, [], ◌∷◌, length, get_or, refl, ap, ◌∙◌, arith}
use Rattle.std.proofs.lemmas.List.Elements.{All-get_or}
use Rattle.ra_base.specs.declared.limits.TheConstants.{MOST_POOLED_MW, MOST_TABLE_MW}
use Rattle.load_model.specs.declared.hours.NetHour.{NetHour}
use Rattle.load_model.specs.Need.{IsNetHour, AreNetHours, need_of, shifted_need_of, no_net_hour}
use Rattle.analytic_index.specs.Index.{needs_of, shifted_needs}

-- a shift by nothing
pub unshifted : (hours : List NetHour) → shifted_needs 0 0 hours ≡ needs_of hours
unshifted [] = refl
unshifted (hour ∷ hours) =
    let same : shifted_need_of 0 0 hour ≡ need_of hour = omega arith in
    ap (λ n. n ∷ shifted_needs 0 0 hours) same ∙ ap (λ ns. need_of hour ∷ ns) (unshifted hours)

-- more supply and less load is no greater need
pub shifted-le : (less more l m : ℕ) (hour : NetHour) → less ≤ l → m ≤ more
    → shifted_need_of l m hour ≤ shifted_need_of less more hour
shifted-le less more l m hour h k = omega arith

-- an hour of an analysis
pub hour_within : (hours : List NetHour) (i : ℕ) (d : NetHour) → AreNetHours hours → i < length hours
    → IsNetHour (get_or hours i d)
hour_within hours i d are h = All-get_or IsNetHour hours i d h are.each

pub need_within : (hours : List NetHour) (i need : ℕ) → AreNetHours hours → i < length hours
    → need ≡ need_of (get_or hours i no_net_hour) → need ≤ MOST_TABLE_MW
need_within hours i need are h e =
    let hour = hour_within hours i no_net_hour are h in
    rw e (omega (arith, hour.load))

pub shifted_within : (less more need : ℕ) (hour : NetHour) → IsNetHour hour → more ≤ MOST_POOLED_MW
    → need ≡ shifted_need_of less more hour → need ≤ MOST_TABLE_MW
shifted_within less more need hour is m e = rw e (omega (arith, is.load))
