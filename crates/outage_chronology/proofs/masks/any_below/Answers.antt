use Rattle.std.proofs.Common.{◌-◌, ◌%◌, length, arith}
use Rattle.std.proofs.lemmas.Bool.{not-false}
use Rattle.outage_chronology.proofs.MaskSteps.{none-of-both}
use Rattle.outage_chronology.proofs.masks.any_below.Goals as goal

pub returns-else-not-are_above : goal.returns-else-not-are_above
returns-else-not-are_above c none =
    let count = length c.args.words.now in
    none-of-both c.args.words.now c.args.thresholds.now (count - count % 8) (count - 8) c.requires (omega arith) (omega (arith, c.if-count-lt-AT_ONCE.false)) (c.are_above-2.ensures c.if-not-are_above.false) (c.are_above-else-not-are_above.ensures (not-false _ none))
