-- Lists of calls that are written out: whether each may be made where it stands can be computed.
use Rattle.std.proofs.Common.{◌≡◌, ℕ, ◌≤◌, Bool, true, false, ◌&&◌, nat_le, List, [], ◌∷◌, ◌++◌, refl, ap, sym, ◌∙◌, subst}
use Rattle.std.proofs.lemmas.Bool.{and_parts, leb-true}
use Rattle.std.proofs.lemmas.List.{map_push}
use Rattle.ra_base.specs.declared.limits.TheConstants.{MOST_SAMPLES, MOST_BLOCK}
use Rattle.campaign_core.specs.declared.run.SampleRange.{SampleRange}
use Rattle.campaign_core.specs.declared.call.Call.{Call}
use Rattle.campaign_core.specs.declared.call.Call.TheVariants.{Claim, Extend, Seal, Cancel, Deposit}
use Rattle.campaign_core.specs.declared.call.Call.TheVariants.{Progress as AskProgress, Interim as AskInterim}
use Rattle.campaign_core.specs.declared.call.Entry.{Entry}
use Rattle.campaign_core.specs.Ranges.{range, has_range}
use Rattle.campaign_core.specs.History.{reply_of, out_of, IsLegal}
use Rattle.campaign_core.specs.Machine.{Machine, IsAllowed, MayBeCalled, after, calls_in}
use Rattle.campaign_core.proofs.HistoryLaws.{legal_by_pushes}
use Rattle.campaign_core.proofs.MachineLaws.{machine_at, machine_push, machine_start, sound_history}

-- whether a call may be made while these ranges are out
abbrev pub is_allowed : List SampleRange → Call → Bool
is_allowed out (Deposit first count) = has_range out (range first count)
is_allowed out (Extend more) = nat_le 1 more && nat_le more MOST_SAMPLES
is_allowed out other = true

-- the machine after a call
abbrev pub next_machine : Machine → Call → Machine
next_machine m call = after m call (reply_of m.block m.gate m.deposited call)

-- the machine after all calls
abbrev pub played : Machine → List Call → Machine
played m [] = m
played m (call ∷ calls) = played (next_machine m call) calls

-- whether each call may be made where it stands
abbrev pub may_play : Machine → List Call → Bool
may_play m [] = true
may_play m (call ∷ calls) = is_allowed m.out call && may_play (next_machine m call) calls

-- a campaign that was just opened
abbrev pub opened : ℕ → ℕ → Machine
opened opening block = record { opening = opening; block = block; gate = record { next = 0; target = opening; sealed = false; cancelled = false }; deposited = []; out = [] }

allowed_is : (out : List SampleRange) (call : Call) → is_allowed out call ≡ true → IsAllowed out call
allowed_is out Claim h = tt
allowed_is out (Extend more) h = let parts = and_parts (nat_le 1 more) (nat_le more MOST_SAMPLES) h in (leb-true 1 more parts.0, leb-true more MOST_SAMPLES parts.1)
allowed_is out Seal h = tt
allowed_is out Cancel h = tt
allowed_is out AskProgress h = tt
allowed_is out (Deposit first count) h = h
allowed_is out AskInterim h = tt

played_push : (m : Machine) (calls : List Call) (call : Call) → played m (calls ++ call ∷ []) ≡ next_machine (played m calls) call
played_push m [] call = refl
played_push m (x ∷ calls) call = played_push (next_machine m x) calls call

at_play : (m : Machine) (before : List Call) (call : Call) (rest : List Call) → may_play m (before ++ call ∷ rest) ≡ true → is_allowed (played m before).out call ≡ true
at_play m [] call rest h = (and_parts (is_allowed m.out call) (may_play (next_machine m call) rest) h).0
at_play m (x ∷ before) call rest h = at_play (next_machine m x) before call rest (and_parts (is_allowed m.out x) (may_play (next_machine m x) (before ++ call ∷ rest)) h).1

module _ (opening block : ℕ) (o : (1 ≤ opening) × (opening ≤ MOST_SAMPLES)) (b : (1 ≤ block) × (block ≤ MOST_BLOCK)) where
  -- a legal history comes to what its calls make of a campaign that was just opened
  history_played : (h : List Entry) → IsLegal opening block h → machine_at opening block h ≡ played (opened opening block) (calls_in h)
  history_played =
      legal_by_pushes opening block (λ h. machine_at opening block h ≡ played (opened opening block) (calls_in h)) (machine_start opening block)
      (λ h e legal follows before.
      let sound = sound_history opening block o b h legal in
      machine_push opening block h e sound follows.0
      ∙ (ap (after (machine_at opening block h) e.call) follows.0
      ∙ (ap (λ m. next_machine m e.call) before
      ∙ sym (ap (played (opened opening block)) (map_push (λ (e : Entry). e.call) h e) ∙ played_push (opened opening block) (calls_in h) e.call))))

  pub may_be_called : (calls : List Call) → may_play (opened opening block) calls ≡ true → MayBeCalled opening block calls
  may_be_called calls may before call rest cut legal =
      let at = at_play (opened opening block) (calls_in before) call rest (ap (may_play (opened opening block)) (sym cut) ∙ may) in
      let same : played (opened opening block) (calls_in before) ≡ machine_at opening block before = sym (history_played before legal) in
      allowed_is (out_of before) call (subst (λ (m : Machine). is_allowed m.out call ≡ true) same at)
