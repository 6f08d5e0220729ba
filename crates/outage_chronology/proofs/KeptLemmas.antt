-- What a chronology keeps at the start of a sample, and from hour to hour.
use Rattle.std.proofs.Common.{◌≡◌, ℕ, suc, ◌+◌, ◌*◌, ◌^◌, ◌<◌, ◌≤◌, Bool, true, false, not, cond, nat_lt, ltb, List, length, get_or, filter, refl, sym, ap, ◌∙◌, arith, subst, ⊎_elim, ◌↔◌, add-one}
use Rattle.std.proofs.lemmas.Bool.{cases_lt, lt-ltb, le-ltb}
use Rattle.system_model.specs.declared.components.Rates.{Rates}
use Rattle.system_model.specs.Rates.{out_weight, up_weight}
use Rattle.system_model.specs.System.{SystemParts, IsValid, hour_count}
use Rattle.sample_streams.specs.Draw.{draw}
use Rattle.sample_streams.specs.HourDraws.{DrawnHour}
use Rattle.outage_chronology.specs.declared.thresholds.Thresholds.{Thresholds}
use Rattle.outage_chronology.specs.Outages.{component_count, component_rates, starts_out, fails, is_repaired, is_up, is_up_with, was_up, differ, changes, changes_in}
use Rattle.outage_chronology.specs.Masks.{up_mask, says_up, IsMask, compared, AreOfStates, turns, turned, next_state, first_state}
use Rattle.outage_chronology.proofs.MaskSteps.{says-mask}
use Rattle.outage_chronology.proofs.Passing.{passing_alike}
use Rattle.std.specs.List.{range_with_len}
use Rattle.outage_chronology.specs.Thresholds.{AreOfRates, AreThresholds}
use Rattle.outage_chronology.specs.Kept.{AreUpMasks, IsKept}

-- ---- one component
same_test : (a b c d : ℕ) → ((a < b) ↔ (c < d)) → ltb a b ≡ ltb c d
same_test a b c d h =
    ⊎_elim
    (λ (l : a < b). lt-ltb a b l ∙ sym (lt-ltb c d (h.0 l)))
    (λ (g : b ≤ a). le-ltb a b g ∙ sym (le-ltb c d (⊎_elim (λ (l : c < d). absurd (let x : a < b = h.1 l in omega arith)) (λ (k : d ≤ c). k) (cases_lt c d))))
    (cases_lt a b)

turned-up : (t : Bool) → turned true t ≡ not t
turned-up true = refl
turned-up false = refl

-- the state after one is by the failure or by the repair
turned-either : (up failing repaired : Bool) → turned up (cond up failing repaired) ≡ cond up (not failing) repaired
turned-either true failing repaired = turned-up failing
turned-either false failing true = refl
turned-either false failing false = refl

next-either : (up : Bool) (word failure repair : ℕ) → next_state up word failure repair ≡ cond up (not (nat_lt (compared word) failure)) (nat_lt (compared word) repair)
next-either up word failure repair = ap (turned up) (either up) ∙ turned-either up (nat_lt (compared word) failure) (nat_lt (compared word) repair)
  where
    either : (up : Bool) → turns up word failure repair ≡ cond up (nat_lt (compared word) failure) (nat_lt (compared word) repair)
    either true = refl
    either false = refl

first-is : (rates : Rates) (word start failure repair : ℕ) → word < 2 ^ 32 → AreOfRates rates start failure repair → first_state word start ≡ not (starts_out rates word)
first-is rates word start failure repair small are =
    turned-up (nat_lt (compared word) start)
    ∙ ap not (same_test (compared word) start (word * (out_weight rates + up_weight rates)) (out_weight rates * 2 ^ 32) (are.start word small))

next-is : (rates : Rates) (up : Bool) (word start failure repair : ℕ) → word < 2 ^ 32 → AreOfRates rates start failure repair
    → next_state up word failure repair ≡ cond up (not (fails rates word)) (is_repaired rates word)
next-is rates up word start failure repair small are =
    next-either up word failure repair
    ∙ ap (λ b. cond up (not b) (nat_lt (compared word) repair)) (same_test (compared word) failure (word * 1000000000) (rates.f * 2 ^ 32) (are.failure word small))
    ∙ ap (λ b. cond up (not (fails rates word)) b) (same_test (compared word) repair (word * 1000000000) (rates.r * 2 ^ 32) (are.repair word small))

-- ---- sizes
pub few_components : (s : SystemParts) → IsValid s → component_count s ≤ 2688
few_components s valid = omega (arith, valid.within.units.most, valid.within.storages.most, valid.within.lines.most)

-- ---- all components
-- the words are the draws of an hour
pub record AreDraws (draws : DrawnHour) (words : List ℕ) : Type 0 where
  pub each : (k : ℕ) → k < draws.components → get_or words k 0 ≡ draw draws.components draws.seed draws.sample draws.hour k
  pub small : (k : ℕ) → k < draws.components → get_or words k 0 < 2 ^ 32

pub masks-are : (s : SystemParts) (seed sample hour : ℕ) (masks : List ℕ) → AreUpMasks s seed sample hour masks → (k : ℕ) → k < length masks → IsMask (get_or masks k 0)
masks-are s seed sample hour masks are k l =
    let is = are.each k (omega (arith, are.len)) in
    is ∙ ap up_mask (sym (ap says_up is ∙ says-mask (is_up s seed sample hour k)))

-- those of an hour of a system
drawn : (s : SystemParts) (hour : ℕ) (draws : DrawnHour) (words : List ℕ) → draws.components ≡ component_count s → draws.hour ≡ hour
    → AreDraws draws words → (k : ℕ) → k < component_count s → get_or words k 0 ≡ draw (component_count s) draws.seed draws.sample hour k
drawn s hour draws words count at are k l =
    are.each k (omega (arith, count))
    ∙ ap (λ n. draw n draws.seed draws.sample draws.hour k) count
    ∙ ap (λ h. draw (component_count s) draws.seed draws.sample h k) at

-- where the masks were and are those of the states, the places that turn are those that change
changes-are : (s : SystemParts) (seed sample hour : ℕ) (before masks words fails repairs changed : List ℕ)
    → ((k : ℕ) → k < component_count s → get_or before k 0 ≡ up_mask (was_up s seed sample hour k))
    → ((k : ℕ) → k < component_count s → get_or masks k 0 ≡ up_mask (is_up s seed sample hour k))
    → ((k : ℕ) → k < component_count s → get_or masks k 0 ≡ up_mask (next_state (says_up (get_or before k 0)) (get_or words k 0) (get_or fails k 0) (get_or repairs k 0)))
    → changed ≡ filter (λ k. turns (says_up (get_or before k 0)) (get_or words k 0) (get_or fails k 0) (get_or repairs k 0)) (range_with_len 0 (component_count s))
    → changed ≡ changes_in s seed sample hour
changes-are s seed sample hour before masks words fails repairs changed was is gone listed =
    listed
    ∙ passing_alike (λ k. turns (says_up (get_or before k 0)) (get_or words k 0) (get_or fails k 0) (get_or repairs k 0)) (changes s seed sample hour) (component_count s)
    (λ k below.
    let up = says_up (get_or before k 0) in
    let w = get_or words k 0 in
    let f = get_or fails k 0 in
    let r = get_or repairs k 0 in
    let was_is : up ≡ was_up s seed sample hour k = ap says_up (was k below) ∙ says-mask (was_up s seed sample hour k) in
    let now_is : next_state up w f r ≡ is_up s seed sample hour k =
    sym (says-mask (next_state up w f r)) ∙ ap says_up (sym (gone k below) ∙ is k below) ∙ says-mask (is_up s seed sample hour k) in
    sym (differ-turned up (turns up w f r))
    ∙ ap (λ b. differ b (next_state up w f r)) was_is
    ∙ ap (λ b. differ (was_up s seed sample hour k) b) now_is)
  where
    differ-turned : (up t : Bool) → differ up (turned up t) ≡ t
    differ-turned true true = refl
    differ-turned true false = refl
    differ-turned false true = refl
    differ-turned false false = refl

pub started : (s : SystemParts) (draws : DrawnHour) (thresholds : Thresholds) (words before masks of_states changed : List ℕ) (space : ℕ)
    → IsValid s
    → draws.components ≡ component_count s
    → draws.hour ≡ 0
    → AreThresholds s thresholds
    → AreDraws draws words
    → length masks ≡ component_count s
    → length of_states ≡ component_count s
    → AreOfStates masks thresholds.fails.items thresholds.is_repaired.items of_states (component_count s)
    → ((k : ℕ) → k < component_count s → get_or before k 0 ≡ up_mask true)
    → ((k : ℕ) → k < component_count s → get_or masks k 0 ≡ up_mask (next_state (says_up (get_or before k 0)) (get_or words k 0) (get_or thresholds.starts_out.items k 0) (get_or thresholds.starts_out.items k 0)))
    → changed ≡ filter (λ k. turns (says_up (get_or before k 0)) (get_or words k 0) (get_or thresholds.starts_out.items k 0) (get_or thresholds.starts_out.items k 0)) (range_with_len 0 (component_count s))
    → component_count s ≤ space
    → IsKept s 0 draws thresholds masks of_states changed space
unfolding is_up is_up_with
started s draws thresholds words before masks of_states changed space valid count first decided are size states_len states was gone listed large =
    let each : (k : ℕ) → k < component_count s → get_or masks k 0 ≡ up_mask (is_up s draws.seed draws.sample 0 k) =
    λ k l.
    let word = get_or words k 0 in
    let start = get_or thresholds.starts_out.items k 0 in
    gone k l
    ∙ ap (λ m. up_mask (next_state (says_up m) word start start)) (was k l)
    ∙ ap up_mask (first-is (component_rates s k) word _ _ _ (are.small k (omega (arith, count))) (decided.each k l))
    ∙ ap (λ w. up_mask (not (starts_out (component_rates s k) w))) (drawn s 0 draws words count first are k l) in
    record {
      valid = valid;
      in_range = valid.hour;
      components = count;
      drawn = first;
      decided = decided;
      up = record { len = size; each = each };
      states_room = states_len;
      states = states;
      changes = changes-are s draws.seed draws.sample 0 before masks words thresholds.starts_out.items thresholds.starts_out.items changed was each gone listed;
      room_for_all = large;
    }

pub stepped : (s : SystemParts) (hour : ℕ) (draws next : DrawnHour) (thresholds : Thresholds) (words old_masks old_states old_changed masks of_states changed : List ℕ) (old_space space : ℕ)
    → IsKept s hour draws thresholds old_masks old_states old_changed old_space
    → hour + 1 < hour_count s
    → next ≡ record draws { hour = draws.hour + 1 }
    → AreDraws next words
    → length masks ≡ component_count s
    → length of_states ≡ component_count s
    → AreOfStates masks thresholds.fails.items thresholds.is_repaired.items of_states (component_count s)
    → ((k : ℕ) → k < component_count s → get_or masks k 0 ≡ up_mask (next_state (says_up (get_or old_masks k 0)) (get_or words k 0) (get_or thresholds.fails.items k 0) (get_or thresholds.is_repaired.items k 0)))
    → changed ≡ filter (λ k. turns (says_up (get_or old_masks k 0)) (get_or words k 0) (get_or thresholds.fails.items k 0) (get_or thresholds.is_repaired.items k 0)) (range_with_len 0 (component_count s))
    → component_count s ≤ space
    → IsKept s (hour + 1) next thresholds masks of_states changed space
unfolding is_up is_up_with
stepped s hour draws next thresholds words old_masks old_states old_changed masks of_states changed old_space space kept early is are size states_len states gone listed large =
    let next_is : next ≡ record draws { hour = hour + 1 } = is ∙ ap (λ h. record draws { hour = h + 1 }) kept.drawn in
    let now : DrawnHour = record draws { hour = hour + 1 } in
    let now_are : AreDraws now words = subst (λ (d : DrawnHour). AreDraws d words) next_is are in
    let later : hour + 1 ≡ suc hour = add-one hour in
    let each : (k : ℕ) → k < component_count s → get_or masks k 0 ≡ up_mask (is_up s draws.seed draws.sample (hour + 1) k) =
    λ k l.
    let word = get_or words k 0 in
    let rates = component_rates s k in
    let up = is_up s draws.seed draws.sample hour k in
    let f = get_or thresholds.fails.items k 0 in
    let r = get_or thresholds.is_repaired.items k 0 in
    gone k l
    ∙ ap (λ m. up_mask (next_state (says_up m) word f r)) (kept.up.each k l)
    ∙ ap (λ b. up_mask (next_state b word f r)) (says-mask up)
    ∙ ap up_mask (next-is rates up word _ f r (now_are.small k (omega (arith, kept.components))) (kept.decided.each k l))
    ∙ ap (λ w. up_mask (cond up (not (fails rates w)) (is_repaired rates w)))
    (drawn s (hour + 1) now words kept.components refl now_are k l ∙ ap (λ h. draw (component_count s) draws.seed draws.sample h k) later)
    ∙ ap (λ h. up_mask (is_up s draws.seed draws.sample h k)) (sym later) in
    let was : (k : ℕ) → k < component_count s → get_or old_masks k 0 ≡ up_mask (was_up s draws.seed draws.sample (hour + 1) k) =
    λ k l. kept.up.each k l ∙ ap (λ h. up_mask (was_up s draws.seed draws.sample h k)) (sym later) in
    subst (λ (d : DrawnHour). IsKept s (hour + 1) d thresholds masks of_states changed space) (sym next_is) (record {
      valid = kept.valid;
      in_range = early;
      components = kept.components;
      drawn = refl;
      decided = kept.decided;
      up = record { len = size; each = each };
      states_room = states_len;
      states = states;
      changes = changes-are s draws.seed draws.sample (hour + 1) old_masks masks words thresholds.fails.items thresholds.is_repaired.items changed was each gone listed;
      room_for_all = large;
    })
