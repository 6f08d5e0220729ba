use Rattle.std.proofs.Common.{◌≡◌, ℕ, ◌<◌, ◌==◌, List, length, cond, ap, sym, ◌∙◌, arith}
use Rattle.std.specs.Prelude.{min, slice_set}
use Rattle.std.proofs.lemmas.List.{length-map, length-set}
use Rattle.std.proofs.lemmas.List.FromFn.{fill_by_all}
use Rattle.system_model.specs.System.{interface_count, interface_at}
use Rattle.system_model.specs.declared.components.Interface.{Interface}
use Rattle.outage_chronology.specs.Standing.{is_up_at}
use Rattle.zone_network.specs.Network.{NetworkParts, link_count}
use Rattle.sample_run.proofs.NetworkSteps.{linked-more}
use Rattle.sample_run.specs.HourNetwork.{link_of, forward_limit, backward_limit}
use Rattle.sample_run.proofs.network.set_links.Goals as goal

pub returns-clause-links : goal.returns-clause-links
returns-clause-links c =
    let all : (i : ℕ) → i < interface_count c.args.system.now → i < c.loop-link.link =
    λ i below. omega (arith, c.loop-link-test.false, c.loop-link.auto.link-end, c.links-link-end.ensures.count, ap link_count c.requires.shape, length-map c.args.system.now.interfaces link_of) in
    record {
      forwards =
          fill_by_all (forward_limit c.args.system.now (is_up_at c.args.chronology.now)) c.loop-link.net.forwards (interface_count c.args.system.now) 0 c.loop-link.invariant.forwards_size
          (λ i below. c.loop-link.invariant.forwards i (all i below));
      backwards =
          fill_by_all (backward_limit c.args.system.now (is_up_at c.args.chronology.now)) c.loop-link.net.backwards (interface_count c.args.system.now) 0 c.loop-link.invariant.backwards_size
          (λ i below. c.loop-link.invariant.backwards i (all i below));
    }

pub loop-link-preserved : goal.loop-link-preserved
loop-link-preserved c =
    let system = c.args.system.now in
    let up = is_up_at c.args.chronology.now in
    let link = c.loop-link.link in
    let net = c.loop-link.net in
    let next = c.set_link.new.self in
    let inv = c.loop-link.invariant in
    let sums = c.requires.sums in
    let among : link < interface_count system =
    omega (arith, c.loop-link-test.true, c.loop-link.auto.link-end, c.links-link-end.ensures.count, ap link_count c.requires.shape, length-map c.args.system.now.interfaces link_of) in
    let f : next.forwards ≡ slice_set net.forwards link c.limit-forward.result = ap (λ (m : NetworkParts). m.forwards) c.set_link.ensures in
    let b : next.backwards ≡ slice_set net.backwards link c.limit-backward.result = ap (λ (m : NetworkParts). m.backwards) c.set_link.ensures in
    record {
      forwards_size = ap length f ∙ length-set net.forwards link _ ∙ inv.forwards_size;
      backwards_size = ap length b ∙ length-set net.backwards link _ ∙ inv.backwards_size;
      forwards =
          linked-more system up net.forwards next.forwards (λ line. line.forward) (λ i. (interface_at system i).forward) link c.limit-forward.result c.get-lines.result c.get.result
          inv.forwards_size among (c.get-lines.ensures ∙ sums.counts link among) (c.get.ensures ∙ sums.forward_sums link among)
          (c.limit-forward.ensures ∙ ap (λ (i : Interface). cond (c.get-lines.result == 0) i.forward (min i.forward c.get.result)) c.interface-stated.ensures.value) f inv.forwards;
      backwards =
          linked-more system up net.backwards next.backwards (λ line. line.backward) (λ i. (interface_at system i).backward) link c.limit-backward.result c.get-lines.result c.get-in-loop-link.result
          inv.backwards_size among (c.get-lines.ensures ∙ sums.counts link among) (c.get-in-loop-link.ensures ∙ sums.backward_sums link among)
          (c.limit-backward.ensures ∙ ap (λ (i : Interface). cond (c.get-lines.result == 0) i.backward (min i.backward c.get-in-loop-link.result)) c.interface-stated.ensures.value) b inv.backwards;
      rest =
          c.set_link.ensures
          ∙ ap (λ (m : NetworkParts). record m { forwards = slice_set net.forwards link c.limit-forward.result; backwards = slice_set net.backwards link c.limit-backward.result }) inv.rest
          ∙ ap (λ (xs : List ℕ). record c.args.net.now { forwards = xs; backwards = slice_set net.backwards link c.limit-backward.result }) (sym f)
          ∙ ap (λ (xs : List ℕ). record c.args.net.now { forwards = next.forwards; backwards = xs }) (sym b);
    }
