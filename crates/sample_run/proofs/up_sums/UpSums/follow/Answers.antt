use Rattle.std.proofs.Common.{ℕ, length, get_or, not, refl, arith, sym, ◌∙◌, ap}
use Rattle.outage_chronology.specs.Outages.{component_count}
use Rattle.outage_chronology.specs.Standing.{changed_at}
use Rattle.sample_run.proofs.UpSumsLoops.{up_until, followed-none, IsReadyToTurn, ready-at, followed-more, followed-all, carry-more}
use Rattle.sample_run.proofs.up_sums.UpSums.follow.Goals as goal
use Rattle.sample_run.proofs.up_sums.UpSums.follow.Goals.{After-is_up}

pub loop-component-init : goal.loop-component-init
loop-component-init c = record {
  sums = followed-none c.args.system.now c.args.chronology.now c.args.self.now (changed_at c.args.chronology.now) c.requires.system refl c.requires.sums;
  lines = λ none. record { forward = refl; backward = refl };
}

pub is_up-requires : goal.is_up-requires
is_up-requires c =
    let ready =
    ready-at c.args.system.now c.args.chronology.now c.loop-component.self c.changed-component-items.result.now c.loop-component.component-index c.changed-component-items.ensures c.loop-component-test.true c.loop-component.invariant.sums in
    omega (arith, ready.among, ap component_count c.requires.system)

-- the component that turns next, at the call that turns it
abbrev turned : After-is_up → ℕ
turned c = get_or c.changed-component-items.result.now c.loop-component.component-index 0

ready : (c : After-is_up) → IsReadyToTurn c.args.system.now c.args.chronology.now c.loop-component.self (changed_at c.args.chronology.now) c.loop-component.component-index (turned c)
ready c =
    ready-at c.args.system.now c.args.chronology.now c.loop-component.self c.changed-component-items.result.now c.loop-component.component-index c.changed-component-items.ensures c.loop-component-test.true c.loop-component.invariant.sums

pub turn-lines-requires-clause-component : goal.turn-lines-requires-clause-component
turn-lines-requires-clause-component c = (ready c).among

pub turn-lines-requires-clause-turns : goal.turn-lines-requires-clause-turns
turn-lines-requires-clause-turns c =
    (up_until c.args.chronology.now (turned c), (ready c).are, (ready c).turns ∙ ap not (sym c.is_up.ensures))

pub loop-component-preserved : goal.loop-component-preserved
loop-component-preserved c =
    let component = get_or c.changed-component-items.result.now c.loop-component.component-index 0 in
    let ready =
    ready-at c.args.system.now c.args.chronology.now c.loop-component.self c.changed-component-items.result.now c.loop-component.component-index c.changed-component-items.ensures c.loop-component-test.true c.loop-component.invariant.sums in
    record {
      sums =
          followed-more c.args.system.now c.args.chronology.now c.loop-component.self c.turn-lines.new.self (changed_at c.args.chronology.now) c.loop-component.component-index component c.is_up.result c.is_up.ensures ready
          (c.turn-lines.ensures.sums (up_until c.args.chronology.now component) ready.are (ready.turns ∙ ap not (sym c.is_up.ensures)));
      lines = carry-more c.args.self.now c.loop-component.self c.turn-lines.new.self c.loop-component.lines c.turn-lines.result c.loop-component.invariant.lines c.turn-lines.ensures.lines;
    }

pub returns-clause-sums : goal.returns-clause-sums
returns-clause-sums c =
    followed-all c.args.system.now c.args.chronology.now c.loop-component.self (changed_at c.args.chronology.now) c.loop-component.component-index
    (omega (arith, ap length c.changed-component-items.ensures, c.loop-component-test.false)) c.loop-component.invariant.sums
