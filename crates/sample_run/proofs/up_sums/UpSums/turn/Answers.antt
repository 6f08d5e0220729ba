use Rattle.std.proofs.Common.{◌≡◌, ℕ, ◌+◌, ◌-◌, ◌<◌, List, get_or, ap, sym, ◌∙◌, arith, not, cond}
use Rattle.std.specs.Prelude.{slice_set}
use Rattle.system_model.specs.declared.components.Unit.{Unit as UnitPart}
use Rattle.system_model.specs.declared.components.Line.{Line}
use Rattle.system_model.specs.System.{line_count, IsLineAmong, interface_count, no_line}
use Rattle.std.proofs.lemmas.List.Elements.{All-get_or}
use Rattle.outage_chronology.specs.Outages.{line_component}
use Rattle.sample_run.proofs.UpSumsSteps.{unit-room, unit-there, line-fits, line-there, turned-unit, turned-line, turned-storage}
use Rattle.sample_run.proofs.up_sums.UpSums.turn.Goals as goal

pub turn_at-requires-clause-room : goal.turn_at-requires-clause-room
turn_at-requires-clause-room c =
    λ up. omega (
      arith,
      unit-room c.args.system.now c.requires.turns.0 c.args.self.now c.args.component c.unit-unit.result.zone c.units-storages.ensures.valid
          (omega (arith, c.if-component-storages.true, c.units-storages.ensures.count)) c.unit-unit.ensures.range.zone c.requires.turns.1,
      ap (λ (u : UnitPart). u.capacity) c.unit-unit.ensures.value,
    )

pub turn_at-requires-clause-there : goal.turn_at-requires-clause-there
turn_at-requires-clause-there c =
    λ out. omega (
      arith,
      unit-there c.args.system.now c.requires.turns.0 c.args.self.now c.args.component c.unit-unit.result.zone
          (omega (arith, c.if-component-storages.true, c.units-storages.ensures.count)) (ap (λ (u : UnitPart). u.zone) c.unit-unit.ensures.value) c.unit-unit.ensures.range.zone
          (c.requires.turns.2 ∙ ap not out) c.requires.turns.1,
      ap (λ (u : UnitPart). u.capacity) c.unit-unit.ensures.value,
    )

pub turn_at-requires-then-component-lines-clause-room : goal.turn_at-requires-then-component-lines-clause-room
turn_at-requires-then-component-lines-clause-room c =
    let system = c.args.system.now in
    let among : c.line-line.result.interface < interface_count system = c.line-line.ensures.range.interface in
    λ up. line-fits system c.requires.turns.0 (λ l. l.forward) c.line-line.result.interface (get_or c.args.self.now.forward c.line-line.result.interface 0) c.line-line.result.forward c.units-storages.ensures.valid
    (λ line less. (All-get_or (IsLineAmong (interface_count system)) system.lines line no_line less c.units-storages.ensures.valid.within.lines.each).forward)
    (c.requires.turns.1.forward_sums c.line-line.result.interface among) c.line-line.ensures.range.forward

pub turn_at-requires-then-component-lines-clause-there : goal.turn_at-requires-then-component-lines-clause-there
turn_at-requires-then-component-lines-clause-there c =
    let system = c.args.system.now in
    let before = c.requires.turns.0 in
    let line = c.args.component - (c.units-storages.result + c.storages.result) in
    let among : c.line-line.result.interface < interface_count system = c.line-line.ensures.range.interface in
    let place : c.args.component ≡ line_component system line = omega (arith, c.if-component-lines.true, c.units-storages.ensures.count, c.storages.ensures.count) in
    let below : line < line_count system = omega (arith, c.requires.component, place, c.if-component-lines.true, c.units-storages.ensures.count, c.storages.ensures.count) in
    λ out. omega (
      arith,
      c.requires.turns.1.forward_sums c.line-line.result.interface among,
      line-there system before (λ l. l.forward) line c.line-line.result.interface below (ap (λ (l : Line). l.interface) c.line-line.ensures.value) (ap before (sym place) ∙ c.requires.turns.2 ∙ ap not out),
      ap (λ (l : Line). l.forward) c.line-line.ensures.value,
    )

pub turn_at-requires-then-component-lines-2-clause-room : goal.turn_at-requires-then-component-lines-2-clause-room
turn_at-requires-then-component-lines-2-clause-room c =
    let system = c.args.system.now in
    let among : c.line-line.result.interface < interface_count system = c.line-line.ensures.range.interface in
    λ up. line-fits system c.requires.turns.0 (λ l. l.backward) c.line-line.result.interface (get_or c.args.self.now.backward c.line-line.result.interface 0) c.line-line.result.backward c.units-storages.ensures.valid
    (λ line less. (All-get_or (IsLineAmong (interface_count system)) system.lines line no_line less c.units-storages.ensures.valid.within.lines.each).backward)
    (c.requires.turns.1.backward_sums c.line-line.result.interface among) c.line-line.ensures.range.backward

pub turn_at-requires-then-component-lines-2-clause-there : goal.turn_at-requires-then-component-lines-2-clause-there
turn_at-requires-then-component-lines-2-clause-there c =
    let system = c.args.system.now in
    let before = c.requires.turns.0 in
    let line = c.args.component - (c.units-storages.result + c.storages.result) in
    let among : c.line-line.result.interface < interface_count system = c.line-line.ensures.range.interface in
    let place : c.args.component ≡ line_component system line = omega (arith, c.if-component-lines.true, c.units-storages.ensures.count, c.storages.ensures.count) in
    let below : line < line_count system = omega (arith, c.requires.component, place, c.if-component-lines.true, c.units-storages.ensures.count, c.storages.ensures.count) in
    λ out. omega (
      arith,
      c.requires.turns.1.backward_sums c.line-line.result.interface among,
      line-there system before (λ l. l.backward) line c.line-line.result.interface below (ap (λ (l : Line). l.interface) c.line-line.ensures.value) (ap before (sym place) ∙ c.requires.turns.2 ∙ ap not out),
      ap (λ (l : Line). l.backward) c.line-line.ensures.value,
    )

pub returns-then-component-storages-clause-sums : goal.returns-then-component-storages-clause-sums
returns-then-component-storages-clause-sums c =
    λ before are was.
    turned-unit c.args.system.now before c.args.self.now (record c.args.self.now { units = c.turn_at.new.amounts }) c.args.component c.unit-unit.result.zone c.unit-unit.result.capacity c.args.up
    (omega (arith, c.if-component-storages.true, c.units-storages.ensures.count)) (ap (λ (u : UnitPart). u.zone) c.unit-unit.ensures.value) c.unit-unit.ensures.range.zone
    (ap (λ (u : UnitPart). u.capacity) c.unit-unit.ensures.value)
    (ap (λ (xs : List ℕ). record c.args.self.now { units = xs }) c.turn_at.ensures) are was

pub returns-then-component-lines-clause-sums : goal.returns-then-component-lines-clause-sums
returns-then-component-lines-clause-sums c =
    let system = c.args.system.now in
    let old = c.args.self.now in
    let line = c.args.component - (c.units-storages.result + c.storages.result) in
    let place : c.args.component ≡ line_component system line = omega (arith, c.if-component-lines.true, c.units-storages.ensures.count, c.storages.ensures.count) in
    let below : line < line_count system = omega (arith, c.requires.component, place, c.if-component-lines.true, c.units-storages.ensures.count, c.storages.ensures.count) in
    λ before are was.
    turned-line system before old (record old { forward = c.turn_at-then-component-lines.new.amounts; backward = c.turn_at-then-component-lines-2.new.amounts }) c.args.component line
    c.line-line.result.interface c.line-line.result.forward c.line-line.result.backward c.args.up place below
    (ap (λ (l : Line). l.interface) c.line-line.ensures.value) c.line-line.ensures.range.interface (ap (λ (l : Line). l.forward) c.line-line.ensures.value) (ap (λ (l : Line). l.backward) c.line-line.ensures.value)
    (ap (λ (xs : List ℕ). record old { forward = xs; backward = c.turn_at-then-component-lines-2.new.amounts }) c.turn_at-then-component-lines.ensures
    ∙ ap (λ (xs : List ℕ). record old {
      forward = slice_set old.forward c.line-line.result.interface (cond c.args.up (get_or old.forward c.line-line.result.interface 0 + c.line-line.result.forward) (get_or old.forward c.line-line.result.interface 0 - c.line-line.result.forward));
      backward = xs;
    }) c.turn_at-then-component-lines-2.ensures)
    are was

pub returns-else-component-lines-clause-sums : goal.returns-else-component-lines-clause-sums
returns-else-component-lines-clause-sums c =
    λ before are was.
    turned-storage c.args.system.now before c.args.self.now c.args.component c.args.up
    (omega (arith, c.if-component-storages.false, c.units-storages.ensures.count)) (omega (arith, c.if-component-lines.false, c.units-storages.ensures.count, c.storages.ensures.count)) are
