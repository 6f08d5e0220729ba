-- What the lines and the workers share may be shared by threads.
use Rattle.std.proofs.Common.{rules}
use Rattle.std.proofs.Crossing.{crosses}
use denote.RattleType.{RattleType}
use denote.Ref.{NamedLft}
use denote.Param.Send.{IsSend, IsSync, sendable}
use denote.Param.SendFields.{declared_send, declared_sync, as_row_send}
use Rattle.campaign_core.proofs.run.Run.TheSendSync as run
use Rattle.system_model.proofs.systems.System.TheSendSync as system
use Rattle.sample_totals.proofs.totals.Totals.TheSendSync as totals
use Rattle.sample_totals.specs.contracts.totals.Totals as sums
use Rattle.sample_run.proofs.work.SampleWork.TheSendSync as work
use Rattle.sample_run.specs.contracts.work.SampleWork as works
use Rattle.campaign.proofs.campaign.Shared.TheSendSync as campaign
use Rattle.campaign.specs.contracts.book.Book as books
use Rattle.campaign_console.specs.contracts.sharing.SharedSamples as shared

book_send : (a : NamedLft) → IsSend (books.the_row (works.the_row a) sums.the_row)
book_send a =
    let t = totals.the_send in
    let r = run.the_send in
    declared_send (books.the_type (works.the_row a) sums.the_row) (search (rules, as_row_send), (search (crosses, sendable, r), (search (sendable, t), tt)))

pub shared_sync : (a b : NamedLft) (P : RattleType) → IsSync P → IsSync (shared.the_row a b P)
shared_sync a b P p =
    let k = campaign.the_sync in
    let w = work.the_sync in
    let b' = book_send in
    let s = system.the_sync in
    declared_sync (shared.the_type a b P) (search (sendable, k, w, b'), (search (sendable, s), (search sendable, (search (sendable, p), tt))))
