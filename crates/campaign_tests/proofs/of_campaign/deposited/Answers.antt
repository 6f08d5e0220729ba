use Rattle.std.proofs.Common.{ap, subst}
use Rattle.campaign_core.specs.declared.run.SampleRange.{SampleRange}
use Rattle.campaign_core.specs.declared.call.Reply.TheVariants.{Deposited}
use Rattle.turn_book.specs.Seated.{view_of}
use Rattle.campaign.specs.Passes.{KeepsOthers}
use Rattle.campaign.proofs.PassLaws.{deposit_keeps}
use Rattle.campaign_tests.proofs.of_campaign.deposited.Goals as goal

pub returns-clause-keeps : goal.returns-clause-keeps
returns-clause-keeps g c =
    let v = view_of c.args.pass.now.seat in
    let w = view_of c.deposit.new.pass.seat in
    subst (λ first. KeepsOthers first v w) (ap (λ (s : SampleRange). s.first) c.done-done.ensures.share)
    (deposit_keeps v c.done-done.result.share.first c.done-done.result.share.count (Deposited c.in-Ok.number) w c.in-Ok.ensures.made)
