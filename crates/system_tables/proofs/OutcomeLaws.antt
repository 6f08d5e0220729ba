use Rattle.std.proofs.Common.{◌≡◌, ℕ, ◌⊎◌, inl, inr, List, Option, None, Some, Result, Ok, Err, refl, sym, ap, ◌∙◌, length, true, false}
use Rattle.ra_base.specs.declared.table.TableBytes.{TableBytes}
use Rattle.ra_base.specs.declared.limits.TheConstants.{MOST_HOURS}
use Rattle.ra_base.specs.declared.table.TableName.{TableName}
use Rattle.ra_base.specs.declared.table.TableName.TheVariants.{Zones, Units, Interfaces, Lines, Storages, Load, Variable}
use Rattle.system_model.specs.System.{SystemParts, no_parts}
use Rattle.system_tables.specs.declared.faults.TableFault.{TableFault}
use Rattle.system_tables.specs.Faults.{◌>>=◌, table_in}
use Rattle.system_tables.specs.Records.{records_of}
use Rattle.system_tables.specs.Zones.{with_zones, zone_rows_in}
use Rattle.system_tables.specs.Units.{with_units, unit_rows_in}
use Rattle.system_tables.specs.Interfaces.{interface_rows_in}
use Rattle.system_tables.specs.Lines.{line_rows_in}
use Rattle.system_tables.specs.Storages.{storage_rows_in}
use Rattle.system_tables.specs.Hours.{with_hours, amounts_in, variables_in, hour_rows_in, some_hour_in, all_hours_in, hours_of}
use Rattle.system_tables.specs.Tables.{where_there, bytes_of, system_of, Reads, FirstFault, HaveOneOutcome, HaveSameRecords, records_in}

some-outcome : (tables : TableBytes) (r : Result SystemParts TableFault)
    → system_of tables ≡ r
    → ((system : SystemParts) × Reads tables system) ⊎ ((fault : TableFault) × FirstFault tables fault)
some-outcome tables (Ok system) e = inl (system, e)
some-outcome tables (Err fault) e = inr (fault, e)

abbrev Outcome : Type 0
Outcome = Result SystemParts TableFault

same-ok : (r : Outcome) (a b : SystemParts) → r ≡ Ok a → r ≡ Ok b → a ≡ b
same-ok r a b e h =
    let same : Ok a ≡ Ok b = sym e ∙ h in
    cc

same-err : (r : Outcome) (a b : TableFault) → r ≡ Err a → r ≡ Err b → a ≡ b
same-err r a b e h =
    let same : Err a ≡ Err b = sym e ∙ h in
    cc

other-way : (r : Outcome) (a : SystemParts) (b : TableFault) → r ≡ Ok a → r ≡ Err b → ⊥
other-way r a b e h =
    let same : Ok a ≡ Err b = sym e ∙ h in
    cc

pub one_outcome : (tables : TableBytes) → HaveOneOutcome tables
one_outcome tables =
    record {
      some = some-outcome tables (system_of tables) refl;
      one_system = λ a b x y. same-ok (system_of tables) a b x y;
      one_fault = λ a b x y. same-err (system_of tables) a b x y;
      apart = λ s f x y. other-way (system_of tables) s f x y;
    }

abbrev Rows : Type 0
Rows = List (List (List ℕ))

some-same : (a b : Rows) → Some a ≡ Some b → a ≡ b
some-same a b e = cc

-- a table with the same records reads alike
same-bytes : (a b : Option (List ℕ)) → records_in a ≡ records_in b → records_of (bytes_of a) ≡ records_of (bytes_of b)
same-bytes None None e = refl
same-bytes None (Some y) e = absurd (cc)
same-bytes (Some x) None e = absurd (cc)
same-bytes (Some x) (Some y) e = some-same (records_of x) (records_of y) e

abbrev Reading : Type 0
Reading = List (List ℕ) → Rows → Result SystemParts TableFault

same-there : (table : TableName) (read : SystemParts → Reading) (s : SystemParts) (a b : Option (List ℕ))
    → records_in a ≡ records_in b
    → where_there (λ above bytes. table_in table (records_of bytes) (read above)) s a
    ≡ where_there (λ above bytes. table_in table (records_of bytes) (read above)) s b
unfolding where_there
same-there table read s None None e = refl
same-there table read s None (Some y) e = absurd (cc)
same-there table read s (Some x) None e = absurd (cc)
same-there table read s (Some x) (Some y) e =
    ap (λ (rows : Rows). table_in table rows (read s)) (some-same (records_of x) (records_of y) e)

same-variables : (zones : List (List ℕ)) (hours : ℕ) (a b : Option (List ℕ))
    → records_in a ≡ records_in b
    → variables_in zones hours a ≡ variables_in zones hours b
unfolding variables_in
same-variables zones hours None None e = refl
same-variables zones hours None (Some y) e = absurd (cc)
same-variables zones hours (Some x) None e = absurd (cc)
same-variables zones hours (Some x) (Some y) e =
    let read : amounts_in false Variable hours zones x ≡ amounts_in false Variable hours zones y =
    ap (λ (rows : Rows). table_in Variable rows (hour_rows_in false Variable hours zones))
    (some-same (records_of x) (records_of y) e) in
    λ i. read i >>= (λ r. all_hours_in (length r.amounts) hours >>= (λ _. Ok r.amounts))

same-hours : (s : SystemParts) (a b c d : Option (List ℕ))
    → records_in a ≡ records_in b
    → records_in c ≡ records_in d
    → with_hours s (bytes_of a) c ≡ with_hours s (bytes_of b) d
unfolding with_hours
same-hours s a b c d e f =
    let read : amounts_in true Load MOST_HOURS s.zone_names (bytes_of a) ≡ amounts_in true Load MOST_HOURS s.zone_names (bytes_of b) =
    ap (λ (rows : Rows). table_in Load rows (hour_rows_in true Load MOST_HOURS s.zone_names)) (same-bytes a b e) in
    λ i. read i >>= (λ l. some_hour_in (length l.amounts) >>= (λ _.
    same-variables s.zone_names (length l.amounts) c d f i >>= (λ v. Ok (record s { hours = hours_of l.amounts v }))))

-- tables with the same records spell the same system, or have the same first fault
pub same_records : (a b : TableBytes) → HaveSameRecords a b → system_of a ≡ system_of b
unfolding system_of
same_records a b h =
    let zones : with_zones no_parts (bytes_of a.zones) ≡ with_zones no_parts (bytes_of b.zones) =
    ap (λ (rows : Rows). table_in Zones rows (zone_rows_in no_parts)) (same-bytes a.zones b.zones h.zones) in
    let units : (s : SystemParts) → with_units s (bytes_of a.units) ≡ with_units s (bytes_of b.units) =
    λ s. ap (λ (rows : Rows). table_in Units rows (unit_rows_in s)) (same-bytes a.units b.units h.units) in
    λ i. zones i >>= (λ z. units z i >>= (λ u.
    same-there Interfaces interface_rows_in u a.interfaces b.interfaces h.interfaces i >>= (λ n.
    same-there Lines line_rows_in n a.lines b.lines h.lines i >>= (λ l.
    same-there Storages storage_rows_in l a.storages b.storages h.storages i >>= (λ t.
    same-hours t a.load b.load a.variable b.variable h.load h.variable i)))))
