-- How sums over the components that are up are made, and change by one that turns.
use Rattle.std.proofs.Common.{◌≡◌, ◌≢◌, ℕ, zero, suc, ◌+◌, ◌-◌, ◌*◌, ◌^◌, ◌<◌, ◌≤◌, ◌==◌, ◌&&◌, inl, inr, Bool, true, false, not, List, length, get_or, cond, refl, ap, sym, ◌∙◌, arith}
use Rattle.std.specs.Prelude.{slice_set, map, sum_by, replicate}
use Rattle.std.specs.List.{range_with_len}
use Rattle.std.proofs.lemmas.List.{get_or-set_same, get_or-set_other, length-set, length-replicate, get_or-replicate}
use Rattle.std.proofs.lemmas.List.FromFn.{fill_by_all, sum_by-map-range_with_len_more}
use Rattle.std.proofs.lemmas.List.Elements.{All-get_or}
use Rattle.std.proofs.lemmas.Bool.{cases_eq, cases_Bool, cond-true, cond-false, eq-eqb, ne_eqb, and_left, and_from}
use Rattle.ra_base.specs.declared.limits.TheConstants.{MOST_POOLED_MW, MOST_LINK_MW}
use Rattle.system_model.specs.declared.components.Line.{Line}
use Rattle.system_model.specs.declared.components.Unit.{Unit as UnitPart}
use Rattle.system_model.specs.System.{SystemParts, IsValid, IsUnitAmong, zone_count, unit_count, interface_count, line_count, storage_count, unit_at, unit_zone, unit_capacity, line_at, pooled_capacity, no_unit}
use Rattle.outage_chronology.specs.Outages.{component_count, line_component}
use Rattle.zone_network.specs.Sums.{NumberSet, sum_where}
use Rattle.zone_network.proofs.SumLemmas.{sum_where-zero, sum_where-suc, sum_where-more, sum_where-equal, sum_where-none, sum_where-term, sum_where-bound}
use Rattle.sample_run.specs.declared.up_sums.UpSums.{UpSums}
use Rattle.sample_run.specs.HourNetwork.{up_units_of, up_capacity, lines_of, lines_count, up_lines_of, up_lines_sum}
use Rattle.sample_run.specs.UpSums.{AreSums, with_state, none_up}

-- ---- sets
pub state-there : (before : NumberSet) (component : ℕ) (up : Bool) → with_state before component up component ≡ up
state-there before component up = cond-true (component == component) up (before component) (eq-eqb component component refl)

pub state-other : (before : NumberSet) (component k : ℕ) (up : Bool) → k ≢ component → with_state before component up k ≡ before k
state-other before component k up other = cond-false (k == component) up (before k) (ne_eqb k component other)

-- a sum gains the term of a number that comes into its set, where that is a member
sum-gains : (p q : NumberSet) (f : ℕ → ℕ) (n k : ℕ) (member : Bool)
    → k < n
    → p k ≡ false
    → q k ≡ member
    → ((i : ℕ) → i < n → i ≢ k → q i ≡ p i)
    → sum_where q f n ≡ sum_where p f n + cond member (f k) 0
sum-gains p q f zero k member below out now same = absurd (omega arith)
sum-gains p q f (suc n) k member below out now same =
    elim (cases_eq k n) [
      | inl here ↦
          omega (
            arith,
            sum_where-suc q f n,
            sum_where-suc p f n,
            sum_where-equal q p f f n (λ i less. ap (λ (b : Bool). cond b (f i) 0) (same i (omega arith) (λ e. omega arith))),
            ap (λ (b : Bool). cond b (f n) 0) (ap q (sym here) ∙ now),
            cond-false (p n) (f n) 0 (ap p (sym here) ∙ out),
            ap (λ (m : ℕ). cond member (f m) 0) here,
          )
      | inr other ↦
          omega (
            arith,
            sum_where-suc q f n,
            sum_where-suc p f n,
            sum-gains p q f n k member (omega arith) out now (λ i less apart. same i (omega arith) apart),
            ap (λ (b : Bool). cond b (f n) 0) (same n (omega arith) (λ e. other (sym e))),
          )
    ]

-- sums by slot, after a number of one slot turned
turned-slots : (amounts amounts' : List ℕ) (slots : ℕ) (member : ℕ → NumberSet) (before after : NumberSet) (f : ℕ → ℕ) (n k place : ℕ) (up : Bool)
    → length amounts ≡ slots
    → place < slots
    → k < n
    → member place k ≡ true
    → ((i : ℕ) → i ≢ place → member i k ≡ false)
    → before k ≡ not up
    → after k ≡ up
    → ((j : ℕ) → j < n → j ≢ k → after j ≡ before j)
    → amounts' ≡ slice_set amounts place (cond up (get_or amounts place 0 + f k) (get_or amounts place 0 - f k))
    → ((i : ℕ) → i < slots → get_or amounts i 0 ≡ sum_where (λ j. before j && member i j) f n)
    → (i : ℕ)
    → i < slots
    → get_or amounts' i 0 ≡ sum_where (λ j. after j && member i j) f n
turned-slots amounts amounts' slots member before after f n k place true size among below here_is others was now same is so_far i among_i =
    let gains : (m : ℕ) → sum_where (λ j. after j && member m j) f n ≡ sum_where (λ j. before j && member m j) f n + cond (member m k) (f k) 0 =
    λ m. sum-gains (λ j. before j && member m j) (λ j. after j && member m j) f n k (member m k) below (and_left (before k) (member m k) was)
    (ap (λ (b : Bool). b && member m k) now) (λ j less apart. ap (λ (b : Bool). b && member m j) (same j less apart)) in
    let value = get_or amounts place 0 + f k in
    elim (cases_eq i place) [
      | inl here ↦
          let at : get_or amounts' i 0 ≡ value =
          ap (λ (xs : List ℕ). get_or xs i 0) is ∙ ap (λ (w : ℕ). get_or (slice_set amounts place value) w 0) here ∙ get_or-set_same amounts place value 0 (omega arith) in
          let sum_at : value ≡ sum_where (λ j. after j && member place j) f n =
          omega (arith, so_far place among, gains place, cond-true (member place k) (f k) 0 here_is) in
          at ∙ sum_at ∙ ap (λ (w : ℕ). sum_where (λ j. after j && member w j) f n) (sym here)
      | inr other ↦
          let at : get_or amounts' i 0 ≡ get_or amounts i 0 =
          ap (λ (xs : List ℕ). get_or xs i 0) is ∙ get_or-set_other amounts place i value 0 other in
          omega (arith, at, so_far i among_i, gains i, cond-false (member i k) (f k) 0 (others i other))
    ]
turned-slots amounts amounts' slots member before after f n k place false size among below here_is others was now same is so_far i among_i =
    let loses : (m : ℕ) → sum_where (λ j. before j && member m j) f n ≡ sum_where (λ j. after j && member m j) f n + cond (member m k) (f k) 0 =
    λ m. sum-gains (λ j. after j && member m j) (λ j. before j && member m j) f n k (member m k) below (and_left (after k) (member m k) now)
    (ap (λ (b : Bool). b && member m k) was) (λ j less apart. ap (λ (b : Bool). b && member m j) (sym (same j less apart))) in
    let value = get_or amounts place 0 - f k in
    elim (cases_eq i place) [
      | inl here ↦
          let at : get_or amounts' i 0 ≡ value =
          ap (λ (xs : List ℕ). get_or xs i 0) is ∙ ap (λ (w : ℕ). get_or (slice_set amounts place value) w 0) here ∙ get_or-set_same amounts place value 0 (omega arith) in
          let sum_at : value ≡ sum_where (λ j. after j && member place j) f n =
          omega (arith, so_far place among, loses place, cond-true (member place k) (f k) 0 here_is) in
          at ∙ sum_at ∙ ap (λ (w : ℕ). sum_where (λ j. after j && member w j) f n) (sym here)
      | inr other ↦
          let at : get_or amounts' i 0 ≡ get_or amounts i 0 =
          ap (λ (xs : List ℕ). get_or xs i 0) is ∙ get_or-set_other amounts place i value 0 other in
          omega (arith, at, so_far i among_i, loses i, cond-false (member i k) (f k) 0 (others i other))
    ]

-- sums over sets that agree
units-alike : (system : SystemParts) (before after : NumberSet) (zone : ℕ)
    → ((unit : ℕ) → unit < unit_count system → after unit ≡ before unit)
    → up_capacity system before zone ≡ up_capacity system after zone
units-alike system before after zone same =
    sum_where-equal (up_units_of system before zone) (up_units_of system after zone) (unit_capacity system) (unit_capacity system) (unit_count system)
    (λ unit below. ap (λ (b : Bool). cond (b && (unit_zone system unit == zone)) (unit_capacity system unit) 0) (sym (same unit below)))

lines-alike : (system : SystemParts) (before after : NumberSet) (by_line : Line → ℕ) (interface : ℕ)
    → ((line : ℕ) → line < line_count system → after (line_component system line) ≡ before (line_component system line))
    → up_lines_sum system before by_line interface ≡ up_lines_sum system after by_line interface
lines-alike system before after by_line interface same =
    sum_where-equal (up_lines_of system before interface) (up_lines_of system after interface) (λ line. by_line (line_at system line)) (λ line. by_line (line_at system line)) (line_count system)
    (λ line below. ap (λ (b : Bool). cond (b && lines_of system interface line) (by_line (line_at system line)) 0) (sym (same line below)))

pub sums-alike : (system : SystemParts) (before after : NumberSet) (sums : UpSums)
    → ((k : ℕ) → k < component_count system → after k ≡ before k)
    → AreSums system before sums
    → AreSums system after sums
sums-alike system before after sums same are =
    record {
      zones = are.zones;
      forwards = are.forwards;
      backwards = are.backwards;
      line_counts = are.line_counts;
      unit_sums = λ zone below. are.unit_sums zone below ∙ units-alike system before after zone (λ unit less. same unit (omega arith));
      forward_sums = λ i below. are.forward_sums i below ∙ lines-alike system before after (λ line. line.forward) i (λ line less. same (line_component system line) (omega arith));
      backward_sums = λ i below. are.backward_sums i below ∙ lines-alike system before after (λ line. line.backward) i (λ line less. same (line_component system line) (omega arith));
      counts = are.counts;
    }

-- ---- a component turns
pub turned-unit : (system : SystemParts) (before : NumberSet) (sums sums' : UpSums) (unit zone capacity : ℕ) (up : Bool)
    → unit < unit_count system
    → zone ≡ unit_zone system unit
    → zone < zone_count system
    → capacity ≡ unit_capacity system unit
    → sums' ≡ record sums { units = slice_set sums.units zone (cond up (get_or sums.units zone 0 + capacity) (get_or sums.units zone 0 - capacity)) }
    → AreSums system before sums
    → before unit ≡ not up
    → AreSums system (with_state before unit up) sums'
turned-unit system before sums sums' unit zone capacity up below at among capacity_is is are was =
    let after = with_state before unit up in
    let units : sums'.units ≡ slice_set sums.units zone (cond up (get_or sums.units zone 0 + unit_capacity system unit) (get_or sums.units zone 0 - unit_capacity system unit)) =
    ap (λ (s : UpSums). s.units) is ∙ ap (λ (c : ℕ). slice_set sums.units zone (cond up (get_or sums.units zone 0 + c) (get_or sums.units zone 0 - c))) capacity_is in
    let lines_same : (line : ℕ) → line < line_count system → after (line_component system line) ≡ before (line_component system line) =
    λ line less. state-other before unit (line_component system line) up (λ e. omega arith) in
    record {
      zones = ap length units ∙ length-set sums.units zone _ ∙ are.zones;
      forwards = ap (λ (s : UpSums). length s.forward) is ∙ are.forwards;
      backwards = ap (λ (s : UpSums). length s.backward) is ∙ are.backwards;
      line_counts = ap (λ (s : UpSums). length s.lines) is ∙ are.line_counts;
      unit_sums =
          turned-slots sums.units sums'.units (zone_count system) (λ z j. unit_zone system j == z) before after (unit_capacity system) (unit_count system) unit zone up
          are.zones among below (eq-eqb (unit_zone system unit) zone (sym at)) (λ i other. ne_eqb (unit_zone system unit) i (λ e. other (sym e ∙ sym at)))
          was (state-there before unit up) (λ j less other. state-other before unit j up other) units are.unit_sums;
      forward_sums =
          λ i less. ap (λ (s : UpSums). get_or s.forward i 0) is ∙ are.forward_sums i less ∙ lines-alike system before after (λ line. line.forward) i lines_same;
      backward_sums =
          λ i less. ap (λ (s : UpSums). get_or s.backward i 0) is ∙ are.backward_sums i less ∙ lines-alike system before after (λ line. line.backward) i lines_same;
      counts = λ i less. ap (λ (s : UpSums). get_or s.lines i 0) is ∙ are.counts i less;
    }

pub turned-line : (system : SystemParts) (before : NumberSet) (sums sums' : UpSums) (component line interface forward backward : ℕ) (up : Bool)
    → component ≡ line_component system line
    → line < line_count system
    → interface ≡ (line_at system line).interface
    → interface < interface_count system
    → forward ≡ (line_at system line).forward
    → backward ≡ (line_at system line).backward
    → sums' ≡ record sums {
      forward = slice_set sums.forward interface (cond up (get_or sums.forward interface 0 + forward) (get_or sums.forward interface 0 - forward));
      backward = slice_set sums.backward interface (cond up (get_or sums.backward interface 0 + backward) (get_or sums.backward interface 0 - backward));
    }
    → AreSums system before sums
    → before component ≡ not up
    → AreSums system (with_state before component up) sums'
turned-line system before sums sums' component line interface forward backward up place below at among forward_is backward_is is are was =
    let after = with_state before component up in
    let fs : sums'.forward ≡ slice_set sums.forward interface (cond up (get_or sums.forward interface 0 + (line_at system line).forward) (get_or sums.forward interface 0 - (line_at system line).forward)) =
    ap (λ (s : UpSums). s.forward) is ∙ ap (λ (c : ℕ). slice_set sums.forward interface (cond up (get_or sums.forward interface 0 + c) (get_or sums.forward interface 0 - c))) forward_is in
    let bs : sums'.backward ≡ slice_set sums.backward interface (cond up (get_or sums.backward interface 0 + (line_at system line).backward) (get_or sums.backward interface 0 - (line_at system line).backward)) =
    ap (λ (s : UpSums). s.backward) is ∙ ap (λ (c : ℕ). slice_set sums.backward interface (cond up (get_or sums.backward interface 0 + c) (get_or sums.backward interface 0 - c))) backward_is in
    let out : before (line_component system line) ≡ not up = ap before (sym place) ∙ was in
    let there : after (line_component system line) ≡ up = ap after (sym place) ∙ state-there before component up in
    let apart : (j : ℕ) → j < line_count system → j ≢ line → after (line_component system j) ≡ before (line_component system j) =
    λ j less other. state-other before component (line_component system j) up (λ e. other (omega arith)) in
    let here_is : lines_of system interface line ≡ true = eq-eqb (line_at system line).interface interface (sym at) in
    let others : (i : ℕ) → i ≢ interface → lines_of system i line ≡ false = λ i other. ne_eqb (line_at system line).interface i (λ e. other (sym e ∙ sym at)) in
    record {
      zones = ap (λ (s : UpSums). length s.units) is ∙ are.zones;
      forwards = ap length fs ∙ length-set sums.forward interface _ ∙ are.forwards;
      backwards = ap length bs ∙ length-set sums.backward interface _ ∙ are.backwards;
      line_counts = ap (λ (s : UpSums). length s.lines) is ∙ are.line_counts;
      unit_sums =
          λ z less. ap (λ (s : UpSums). get_or s.units z 0) is ∙ are.unit_sums z less
          ∙ units-alike system before after z (λ unit few. state-other before component unit up (λ e. omega arith));
      forward_sums =
          turned-slots sums.forward sums'.forward (interface_count system) (lines_of system) (λ j. before (line_component system j)) (λ j. after (line_component system j))
          (λ j. (line_at system j).forward) (line_count system) line interface up are.forwards among below here_is others out there apart fs are.forward_sums;
      backward_sums =
          turned-slots sums.backward sums'.backward (interface_count system) (lines_of system) (λ j. before (line_component system j)) (λ j. after (line_component system j))
          (λ j. (line_at system j).backward) (line_count system) line interface up are.backwards among below here_is others out there apart bs are.backward_sums;
      counts = λ i less. ap (λ (s : UpSums). get_or s.lines i 0) is ∙ are.counts i less;
    }

-- a storage is in no sum
pub turned-storage : (system : SystemParts) (before : NumberSet) (sums : UpSums) (component : ℕ) (up : Bool)
    → unit_count system ≤ component
    → component < unit_count system + storage_count system
    → AreSums system before sums
    → AreSums system (with_state before component up) sums
turned-storage system before sums component up past early are =
    let after = with_state before component up in
    record {
      zones = are.zones;
      forwards = are.forwards;
      backwards = are.backwards;
      line_counts = are.line_counts;
      unit_sums = λ z less. are.unit_sums z less ∙ units-alike system before after z (λ unit few. state-other before component unit up (λ e. omega arith));
      forward_sums =
          λ i less. are.forward_sums i less
          ∙ lines-alike system before after (λ line. line.forward) i (λ line few. state-other before component (line_component system line) up (λ e. omega arith));
      backward_sums =
          λ i less. are.backward_sums i less
          ∙ lines-alike system before after (λ line. line.backward) i (λ line few. state-other before component (line_component system line) up (λ e. omega arith));
      counts = are.counts;
    }

-- ---- bounds
-- some of the first units have no more capacity than all units
sum-first : (system : SystemParts) (p : NumberSet) (n : ℕ)
    → sum_where p (unit_capacity system) n
    ≤ sum_by (λ (unit : UnitPart). unit.capacity) (map (unit_at system) (range_with_len 0 n))
sum-first system p zero = omega (arith, sum_where-zero p (unit_capacity system))
sum-first system p (suc n) =
    let more = sum_by-map-range_with_len_more (λ (unit : UnitPart). unit.capacity) (unit_at system) 0 n n (omega arith) in
    let e : n + 1 ≡ suc n = omega arith in
    let more' = rw e at more in
    let term : cond (p n) (unit_capacity system n) 0 ≤ unit_capacity system n =
    elim (cases_Bool (p n)) [
      | inl holds ↦ omega (arith, cond-true (p n) (unit_capacity system n) 0 holds)
      | inr fails ↦ omega (arith, cond-false (p n) (unit_capacity system n) 0 fails)
    ] in
    omega (arith, sum-first system p n, sum_where-suc p (unit_capacity system) n, term, more')

sum-rest : (system : SystemParts) (p : NumberSet) (n more : ℕ)
    → sum_where p (unit_capacity system) n
    ≤ sum_by (λ (unit : UnitPart). unit.capacity) (map (unit_at system) (range_with_len 0 (n + more)))
sum-rest system p n zero =
    let e : n + 0 ≡ n = omega arith in
    rw e (sum-first system p n)
sum-rest system p n (suc more) =
    let e : n + suc more ≡ n + more + 1 = omega arith in
    let step = sum_by-map-range_with_len_more (λ (unit : UnitPart). unit.capacity) (unit_at system) 0 (n + more) (n + more) (omega arith) in
    rw e (omega (arith, sum-rest system p n more, step))

pub units-pooled : (system : SystemParts) (p : NumberSet) (n : ℕ)
    → n ≤ unit_count system
    → sum_where p (unit_capacity system) n ≤ pooled_capacity system.units
units-pooled system p n few =
    let all : system.units ≡ map (unit_at system) (range_with_len 0 (unit_count system)) =
    fill_by_all (unit_at system) system.units (unit_count system) no_unit refl (λ k l. refl) in
    let e : n + (unit_count system - n) ≡ unit_count system = omega arith in
    let rest = rw e at (sum-rest system p n (unit_count system - n)) in
    omega (arith, rest, ap (λ (us : List UnitPart). sum_by (λ unit. unit.capacity) us) all)

pub unit-room : (system : SystemParts) (before : NumberSet) (sums : UpSums) (unit zone : ℕ)
    → IsValid system
    → unit < unit_count system
    → zone < zone_count system
    → AreSums system before sums
    → get_or sums.units zone 0 + unit_capacity system unit < 2 ^ 32
unit-room system before sums unit zone valid below among are =
    let one : unit_capacity system unit ≤ MOST_POOLED_MW =
    (All-get_or (IsUnitAmong (zone_count system)) system.units unit no_unit below valid.within.units.each).capacity in
    omega (arith, are.unit_sums zone among, units-pooled system (up_units_of system before zone) (unit_count system) (omega arith), one, valid.within.units.pooled)

pub unit-there : (system : SystemParts) (before : NumberSet) (sums : UpSums) (unit zone : ℕ)
    → unit < unit_count system
    → zone ≡ unit_zone system unit
    → zone < zone_count system
    → before unit ≡ true
    → AreSums system before sums
    → unit_capacity system unit ≤ get_or sums.units zone 0
unit-there system before sums unit zone below at among up are =
    omega (arith, are.unit_sums zone among, sum_where-term (up_units_of system before zone) (unit_capacity system) (unit_count system) unit below (and_from (before unit) (unit_zone system unit == zone) up (eq-eqb (unit_zone system unit) zone (sym at))))

-- a sum over an interface's lines is small, and holds each of them that is up
pub lines-room : (system : SystemParts) (before : NumberSet) (by_line : Line → ℕ) (interface most : ℕ)
    → IsValid system
    → ((line : ℕ) → line < line_count system → by_line (line_at system line) ≤ MOST_LINK_MW)
    → up_lines_sum system before by_line interface ≤ 1000000 * 512
lines-room system before by_line interface most valid each =
    omega (
      arith,
      sum_where-bound (up_lines_of system before interface) (λ line. by_line (line_at system line)) (line_count system) 1000000 each,
      valid.within.lines.most,
    )

pub line-there : (system : SystemParts) (before : NumberSet) (by_line : Line → ℕ) (line interface : ℕ)
    → line < line_count system
    → interface ≡ (line_at system line).interface
    → before (line_component system line) ≡ true
    → by_line (line_at system line) ≤ up_lines_sum system before by_line interface
line-there system before by_line line interface below at up =
    sum_where-term (up_lines_of system before interface) (λ l. by_line (line_at system l)) (line_count system) line below
    (and_from (before (line_component system line)) (lines_of system interface line) up (eq-eqb (line_at system line).interface interface (sym at)))

-- ---- at first
pub none-sums : (system : SystemParts) (sums : UpSums)
    → sums.units ≡ replicate (zone_count system) 0
    → sums.forward ≡ replicate (interface_count system) 0
    → sums.backward ≡ replicate (interface_count system) 0
    → length sums.lines ≡ interface_count system
    → ((i : ℕ) → i < interface_count system → get_or sums.lines i 0 ≡ lines_count system i)
    → AreSums system none_up sums
none-sums system sums units forward backward size counts =
    record {
      zones = ap length units ∙ length-replicate (zone_count system) 0;
      forwards = ap length forward ∙ length-replicate (interface_count system) 0;
      backwards = ap length backward ∙ length-replicate (interface_count system) 0;
      line_counts = size;
      unit_sums =
          λ z below. ap (λ (xs : List ℕ). get_or xs z 0) units ∙ get_or-replicate (zone_count system) z 0 0 below
          ∙ sym (sum_where-none (up_units_of system none_up z) (unit_capacity system) (unit_count system) (λ i less holds. absurd (cc)));
      forward_sums =
          λ z below. ap (λ (xs : List ℕ). get_or xs z 0) forward ∙ get_or-replicate (interface_count system) z 0 0 below
          ∙ sym (sum_where-none (up_lines_of system none_up z) (λ l. (line_at system l).forward) (line_count system) (λ i less holds. absurd (cc)));
      backward_sums =
          λ z below. ap (λ (xs : List ℕ). get_or xs z 0) backward ∙ get_or-replicate (interface_count system) z 0 0 below
          ∙ sym (sum_where-none (up_lines_of system none_up z) (λ l. (line_at system l).backward) (line_count system) (λ i less holds. absurd (cc)));
      counts = counts;
    }

pub counted-none : (system : SystemParts) (amounts : List ℕ)
    → amounts ≡ replicate (interface_count system) 0
    → (i : ℕ)
    → i < interface_count system
    → get_or amounts i 0 ≡ sum_where (lines_of system i) (λ line. 1) 0
counted-none system amounts is i below =
    ap (λ (xs : List ℕ). get_or xs i 0) is ∙ get_or-replicate (interface_count system) i 0 0 below ∙ sym (sum_where-zero (lines_of system i) (λ line. 1))

pub counted-more : (system : SystemParts) (amounts amounts' : List ℕ) (line interface : ℕ)
    → interface ≡ (line_at system line).interface
    → interface < interface_count system
    → length amounts ≡ interface_count system
    → amounts' ≡ slice_set amounts interface (get_or amounts interface 0 + 1)
    → ((i : ℕ) → i < interface_count system → get_or amounts i 0 ≡ sum_where (lines_of system i) (λ line. 1) line)
    → (i : ℕ)
    → i < interface_count system
    → get_or amounts' i 0 ≡ sum_where (lines_of system i) (λ line. 1) (line + 1)
counted-more system amounts amounts' line interface at among size is so_far i below =
    let value = get_or amounts interface 0 + 1 in
    elim (cases_eq i interface) [
      | inl here ↦
          let now : get_or amounts' i 0 ≡ value =
          ap (λ (xs : List ℕ). get_or xs i 0) is ∙ ap (λ (w : ℕ). get_or (slice_set amounts interface value) w 0) here ∙ get_or-set_same amounts interface value 0 (omega arith) in
          omega (
            arith,
            now,
            so_far i below,
            ap (λ (w : ℕ). get_or amounts w 0) here,
            sum_where-more (lines_of system i) (λ l. 1) line,
            cond-true {A = ℕ} (lines_of system i line) 1 0 (eq-eqb (line_at system line).interface i (sym at ∙ sym here)),
          )
      | inr other ↦
          omega (
            arith,
            ap (λ (xs : List ℕ). get_or xs i 0) is ∙ get_or-set_other amounts interface i value 0 other,
            so_far i below,
            sum_where-more (lines_of system i) (λ l. 1) line,
            cond-false {A = ℕ} (lines_of system i line) 1 0 (ne_eqb (line_at system line).interface i (λ e. other (sym e ∙ sym at))),
          )
    ]

-- a line's way, before it turns
pub line-fits : (system : SystemParts) (before : NumberSet) (by_line : Line → ℕ) (interface amount by : ℕ)
    → IsValid system
    → ((line : ℕ) → line < line_count system → by_line (line_at system line) ≤ MOST_LINK_MW)
    → amount ≡ up_lines_sum system before by_line interface
    → by ≤ MOST_LINK_MW
    → amount + by < 2 ^ 32
line-fits system before by_line interface amount by valid each is small = omega (arith, is, lines-room system before by_line interface 0 valid each)

-- what a zone's units have is small
pub unit-sums-small : (system : SystemParts) (up : NumberSet) (sums : UpSums) (zone : ℕ)
    → IsValid system
    → zone < zone_count system
    → AreSums system up sums
    → get_or sums.units zone 0 ≤ MOST_POOLED_MW
unit-sums-small system up sums zone valid among are =
    omega (arith, are.unit_sums zone among, units-pooled system (up_units_of system up zone) (unit_count system) (omega arith), valid.within.units.pooled)
