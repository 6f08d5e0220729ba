use Rattle.std.proofs.Common.{◌≡◌, refl, subst, rules}
use Rattle.campaign_core.specs.declared.call.Reply.TheVariants.{Idle as IsIdle}
use Rattle.campaign.specs.Passes.{pass_of}
use Rattle.campaign_workers.specs.declared.working.WorkEnd.TheVariants.{Idle}
use Rattle.campaign_workers.specs.Working.{DidWork}
use Rattle.campaign_workers.proofs.WorkLaws.{works_none, works_then, out_then, stops_works, did_then, both_ways}
use Rattle.campaign_workers.proofs.working.work_on.Goals as goal

pub loop-init : goal.loop-init
loop-init g c = record {
  pass = c.requires.pass;
  serves = c.requires.job;
  works = works_none (pass_of c.args.pass.now);
  out = λ r. refl;
  job = λ work. (λ x. x, λ x. x);
}

pub returns-then-ne-clause-work : goal.returns-then-ne-clause-work
returns-then-ne-clause-work g c =
    did_then (pass_of c.args.pass.now) (pass_of c.loop.pass) c.in-Some-turn.end (pass_of c.turn.new.pass) c.loop.invariant.works c.loop.invariant.out c.in-Some-turn.ensures.work

pub loop-preserved : goal.loop-preserved
loop-preserved g c =
    let v = pass_of c.args.pass.now in
    let u = pass_of c.loop.pass in
    let w = pass_of c.turn.new.pass in
    let is : c.in-Some-turn.end ≡ Idle = search rules in
    let stops = subst (λ end. DidWork u end w) is c.in-Some-turn.ensures.work in
    let jobs = c.turn.ensures.job in
    record {
      pass = c.turn.ensures.pass;
      serves = (jobs _).0 c.loop.invariant.serves;
      works = works_then v u w c.loop.invariant.works (stops_works u IsIdle w stops);
      out = out_then v u w c.loop.invariant.out stops.out;
      job = λ work. both_ways (c.loop.invariant.job work) (jobs work);
    }

pub loop-preserved-in-None-turn : goal.loop-preserved-in-None-turn
loop-preserved-in-None-turn g c =
    let v = pass_of c.args.pass.now in
    let u = pass_of c.loop.pass in
    let w = pass_of c.turn.new.pass in
    let did = c.in-None-turn.ensures.work in
    let jobs = c.turn.ensures.job in
    record {
      pass = c.turn.ensures.pass;
      serves = (jobs _).0 c.loop.invariant.serves;
      works = works_then v u w c.loop.invariant.works did.0;
      out = out_then v u w c.loop.invariant.out did.1;
      job = λ work. both_ways (c.loop.invariant.job work) (jobs work);
    }
