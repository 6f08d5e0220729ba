use Rattle.std.proofs.Common.{◌≡◌, ◌≤◌, ◌*◌, [], length}
use Rattle.system_model.specs.System.{zone_count, unit_count, hour_count, pooled_capacity}
use Rattle.index_tests.proofs.systems.one_zone.Given as goal

abbrev pub invariant-units : goal.invariant-units
invariant-units g l =
    (zone_count l.draft ≡ 1) × (unit_count l.draft ≡ l.capacity-index) × (pooled_capacity l.draft.units ≤ 25000 * l.capacity-index) × (l.draft.hours ≡ [])

abbrev pub invariant-hours : goal.invariant-hours
invariant-hours g l = (zone_count l.draft ≡ 1) × (hour_count l.draft ≡ l.mw-index) × (length l.load ≡ 1) × (length l.variable ≡ 1)
