use Rattle.std.proofs.Common.{◌≡◌, ◌++◌, get_or, arith, sym, ◌∙◌}
use Rattle.std.proofs.lemmas.List.{append-nil}
use Rattle.result_recorders.proofs.ZoneLemmas.{amounts-none, amounts-more}
use Rattle.result_recorders.proofs.lines.put_amounts.Goals as goal

pub loop-at-init : goal.loop-at-init
loop-at-init c = rw amounts-none (c.in_ok-push.ensures.ok ∙ sym (append-nil (c.args.out.now ++ c.args.word.now)))

pub loop-at-preserved : goal.loop-at-preserved
loop-at-preserved c =
    let amount : c.from.result ≡ get_or c.args.amounts.now c.loop-at.at 0 = c.from.ensures ∙ c.get.ensures in
    let more = rw amount at c.in_ok-put_counted.ensures in
    amounts-more c.args.amounts.now c.loop-at.at c.args.out.now c.args.word.now c.loop-at.out c.put_counted.new.out (omega arith) c.loop-at.invariant more
