use Rattle.std.proofs.Common.{rules}
use Rattle.transfer_flow.proofs.WayLemmas.{listed_link}
use Rattle.transfer_flow.proofs.flows.Flow.ring_of.Goals as goal

pub link-requires : goal.link-requires
link-requires c =
    search (
      rules,
      listed_link c.args.net.now.shape c.args.zone c.loop-link.link-index c.links_of-link-items.result.now
          c.links_of-link-items.ensures.value c.loop-link-test.true,
    )

pub start_of-start-requires : goal.start_of-start-requires
start_of-start-requires c =
    search (
      rules,
      listed_link c.args.net.now.shape c.args.zone c.loop-link.link-index c.links_of-link-items.result.now
          c.links_of-link-items.ensures.value c.loop-link-test.true,
    )

pub room-requires-clause-link : goal.room-requires-clause-link
room-requires-clause-link c =
    search (
      rules,
      listed_link c.args.net.now.shape c.args.zone c.loop-link.link-index c.links_of-link-items.result.now
          c.links_of-link-items.ensures.value c.loop-link-test.true,
    )
