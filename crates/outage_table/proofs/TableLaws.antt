-- What the entries that a table keeps are.
use Rattle.std.proofs.Common.{◌≡◌, ℕ, zero, suc, ◌+◌, ◌-◌, ◌^◌, ◌<◌, ◌≤◌, List, [], ◌∷◌, ◌++◌, length, get_or, take, drop, sym, ap, subst, refl, inl, inr, ◌∙◌, arith, length-append}
use Rattle.std.proofs.lemmas.Bool.{cases_lt}
use Rattle.std.proofs.lemmas.List.{take_all, drop_all, append-nil}
use Rattle.std.proofs.lemmas.List.Elements.{All-nil, All-push}
use Rattle.ra_base.specs.declared.limits.TheConstants.{MOST_TABLE_MW}
use Rattle.fixed_interval.specs.declared.enclosure.Enclosure.{Enclosure}
use Rattle.fixed_interval.specs.Enclosure.{one}
use Rattle.fixed_interval.specs.Rounding.{floor_div, ceil_div}
use Rattle.system_model.specs.Rates.{AreRates, out_weight, up_weight}
use Rattle.outage_table.specs.declared.units.PooledUnit.{PooledUnit}
use Rattle.outage_table.specs.States.{total_capacity}
use Rattle.outage_table.specs.Grid.{no_units, grid}
use Rattle.outage_table.specs.Table.{IsFilledUp, AreFallingEntries, AreMixed, IsTable}
use Rattle.outage_table.proofs.GridLaws.{grid_ends, part-high, total_capacity-push, low_end-push, high_end-push}

-- past the last entry the written ends are 0
pub low_past : (entries : List Enclosure) (units : List PooledUnit) (x : ℕ) → IsTable entries units → length entries ≤ x
    → 0 ≡ grid floor_div units x
low_past entries units x table h =
    let more : total_capacity units < x = omega (arith, table.written.count) in
    sym ((grid_ends units table.rated).past_low x more)

pub high_past : (entries : List Enclosure) (units : List PooledUnit) (x : ℕ) → IsTable entries units → length entries ≤ x
    → 0 ≡ grid ceil_div units x
high_past entries units x table h =
    let more : total_capacity units < x = omega (arith, table.written.count) in
    sym ((grid_ends units table.rated).past_high x more)

alone_low : (e d : Enclosure) (x : ℕ) → x < 1 → e.low ≡ one → (get_or (e ∷ []) x d).low ≡ no_units x
alone_low e d zero h low = low
alone_low e d (suc x) h low = absurd (omega arith)

alone_high : (e d : Enclosure) (x : ℕ) → x < 1 → e.high ≡ one → (get_or (e ∷ []) x d).high ≡ no_units x
alone_high e d zero h high = high
alone_high e d (suc x) h high = absurd (omega arith)

-- a table without units has one entry, which is 1
pub table_none : (entries before : List Enclosure) (units : List PooledUnit) (e : Enclosure) → entries ≡ before ++ e ∷ []
    → before ≡ [] → units ≡ [] → e.low ≡ one → e.high ≡ one → IsTable entries units
table_none entries before units e all first none low high = rw (all, first, none) (record {
  written = record { count = refl; low = λ x d h. alone_low e d x h low; high = λ x d h. alone_high e d x h high };
  small = omega arith;
  countable = omega arith;
  rated = All-nil (λ unit. AreRates unit.rates);
})

-- the filled up entries are still those that are written
pub filled_low : (entries longer : List Enclosure) (n : ℕ) (units : List PooledUnit) → IsTable entries units
    → IsFilledUp entries longer n → (x : ℕ) (d : Enclosure) → x < n → (get_or longer x d).low ≡ grid floor_div units x
filled_low entries longer n units table filled x d h = elim (cases_lt x (length entries)) [
  | inl near ↦ ap (λ e. e.low) (filled.kept x d near) ∙ table.written.low x d near
  | inr far ↦ filled.low x d far h ∙ low_past entries units x table far
]

pub filled_high : (entries longer : List Enclosure) (n : ℕ) (units : List PooledUnit) → IsTable entries units
    → IsFilledUp entries longer n → (x : ℕ) (d : Enclosure) → x < n → (get_or longer x d).high ≡ grid ceil_div units x
filled_high entries longer n units table filled x d h = elim (cases_lt x (length entries)) [
  | inl near ↦ ap (λ e. e.high) (filled.kept x d near) ∙ table.written.high x d near
  | inr far ↦ filled.high x d far h ∙ high_past entries units x table far
]

pub filled_part : (entries longer : List Enclosure) (n : ℕ) (units : List PooledUnit) → IsTable entries units
    → IsFilledUp entries longer n → (x : ℕ) (d : Enclosure) → x < n → (get_or longer x d).high ≤ one
filled_part entries longer n units table filled x d h =
    rw (filled_high entries longer n units table filled x d h) (part-high units x table.rated)

pub filled_falling_entries : (entries longer : List Enclosure) (n : ℕ) (units : List PooledUnit) → IsTable entries units
    → IsFilledUp entries longer n → AreFallingEntries longer
filled_falling_entries entries longer n units table filled = record {
  low = λ x y d h l.
      rw (filled_low entries longer n units table filled x d (omega (arith, filled.count)), filled_low entries longer n units table filled y d (omega (arith, filled.count)))
      ((grid_ends units table.rated).falls_low x y h);
  high = λ x y d h l.
      rw (filled_high entries longer n units table filled x d (omega (arith, filled.count)), filled_high entries longer n units table filled y d (omega (arith, filled.count)))
      ((grid_ends units table.rated).falls_high x y h);
  part = λ x d h. filled_part entries longer n units table filled x d (omega (arith, filled.count));
}

-- one more unit
pub table-push : (entries longer mixed : List Enclosure) (units : List PooledUnit) (u : PooledUnit) (out all : ℕ) → IsTable entries units
    → AreRates u.rates → total_capacity units + u.capacity ≤ MOST_TABLE_MW → length units + 1 < 2 ^ 32
    → IsFilledUp entries longer (total_capacity units + u.capacity + 1) → length mixed ≡ length longer
    → out ≡ out_weight u.rates → all ≡ out_weight u.rates + up_weight u.rates
    → AreMixed longer mixed u.capacity out all → IsTable mixed (units ++ u ∷ [])
table-push entries longer mixed units u out all table rated small countable filled long is_out is_all done = record {
  written = record {
    count = long ∙ filled.count ∙ ap (λ n. n + 1) (sym (total_capacity-push units u));
    low = λ x d h.
        let within : x < total_capacity units + u.capacity + 1 = omega (arith, long, filled.count) in
        let before : x - u.capacity < total_capacity units + u.capacity + 1 = omega arith in
        done.low x d (omega (arith, long))
        ∙ (rw (
          is_out,
          is_all,
          filled_low entries longer (total_capacity units + u.capacity + 1) units table filled x d within,
          filled_low entries longer (total_capacity units + u.capacity + 1) units table filled (x - u.capacity) d before,
        )
        (low_end-push units u x table.rated rated));
    high = λ x d h.
        let within : x < total_capacity units + u.capacity + 1 = omega (arith, long, filled.count) in
        let before : x - u.capacity < total_capacity units + u.capacity + 1 = omega arith in
        done.high x d (omega (arith, long))
        ∙ (rw (
          is_out,
          is_all,
          filled_high entries longer (total_capacity units + u.capacity + 1) units table filled x d within,
          filled_high entries longer (total_capacity units + u.capacity + 1) units table filled (x - u.capacity) d before,
        )
        (high_end-push units u x table.rated rated));
  };
  small = rw (total_capacity-push units u) small;
  countable = rw (length-append units (u ∷ [])) countable;
  rated = All-push (λ unit. AreRates unit.rates) units u table.rated rated;
}

-- a vector that was lent as a slice holds what the slice then held
pub given_back : {X : Type 0} (slice items : List X) (n : ℕ) → length slice ≡ n → length items ≡ n
    → take n (slice ++ drop (length slice) items) ≡ slice
given_back slice items n long short =
    let none : drop (length slice) items ≡ [] = drop_all (length slice) items (omega arith) in
    ap (λ xs. take n (slice ++ xs)) none ∙ ap (λ xs. take n xs) (append-nil slice) ∙ take_all n slice (omega arith)

-- the table after a unit was pushed and the entries were filled up, lent, mixed and given back
pub table_added : (entries longer lent mixed : List Enclosure) (units more : List PooledUnit) (u : PooledUnit) (n count out all : ℕ)
    → IsTable entries units → AreRates u.rates → n ≡ total_capacity units + u.capacity + 1
    → total_capacity units + u.capacity ≤ MOST_TABLE_MW → length units + 1 < 2 ^ 32 → IsFilledUp entries longer n
    → lent ≡ longer → length mixed ≡ length lent → AreMixed lent mixed u.capacity out all
    → out ≡ out_weight u.rates → all ≡ out_weight u.rates + up_weight u.rates → count ≡ length longer → more ≡ units ++ u ∷ []
    → IsTable (take count (mixed ++ drop (length mixed) longer)) more
table_added entries longer lent mixed units more u n count out all table rated is_n small countable filled lends long done is_out is_all whole pushed =
    let sized : length mixed ≡ length longer = long ∙ ap length lends in
    let back : take count (mixed ++ drop (length mixed) longer) ≡ mixed
    = given_back mixed longer count (sized ∙ sym whole) (sym whole) in
    let filled' : IsFilledUp entries longer (total_capacity units + u.capacity + 1) = subst (IsFilledUp entries longer) is_n filled in
    let done' : AreMixed longer mixed u.capacity out all = subst (λ es. AreMixed es mixed u.capacity out all) lends done in
    rw (back, pushed) (table-push entries longer mixed units u out all table rated small countable filled' sized is_out is_all done')
