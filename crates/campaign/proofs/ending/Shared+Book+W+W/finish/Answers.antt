use Rattle.std.proofs.Common.{◌≡◌, map, sym, ap, ◌∙◌, subst, arith}
use Rattle.campaign_core.specs.Ranges.{samples_of, runs_of, AreDisjoint}
use Rattle.campaign_core.specs.History.{deposits_of}
use Rattle.turn_book.specs.Seated.{view_of}
use Rattle.turn_book.proofs.SoundLaws.{few_joined, every_call}
use Rattle.campaign.proofs.PassLaws.{deposits_apart, runs_stand}
use Rattle.campaign.proofs.ending.Shared+Book+W+W.finish.Goals as goal

pub close-book-requires-clause-all : goal.close-book-requires-clause-all
close-book-requires-clause-all g c κs within =
    omega (arith, c.requires.pass.joined, c.requires.pass.made, c.if-pass.false, few_joined (view_of c.args.pass.seat) c.requires.pass.seat.sound c.requires.opening)

pub of-requires-clause-disjoint : goal.of-requires-clause-disjoint
of-requires-clause-disjoint g c = subst AreDisjoint (sym c.close-book.ensures.book.ranges) (deposits_apart (view_of c.args.pass.seat) c.requires.pass.seat.sound)

pub returns-clause-all : goal.returns-clause-all
returns-clause-all g c =
    omega (arith, c.requires.pass.joined, c.requires.pass.made, c.if-pass.false, few_joined (view_of c.args.pass.seat) c.requires.pass.seat.sound c.requires.opening)

pub returns-clause-whole : goal.returns-clause-whole
returns-clause-whole g c =
    let v = view_of c.args.pass.seat in
    let sound = c.requires.pass.seat.sound in
    record {
      legal = sound.legal;
      calls = every_call v sound c.requires.opening (omega (arith, c.requires.pass.joined, c.requires.pass.made, c.if-pass.false, few_joined v sound c.requires.opening));
    }

pub returns-clause-sum : goal.returns-clause-sum
returns-clause-sum g c =
    let v = view_of c.args.pass.seat in
    let ds = deposits_of v.seen in
    let work : c.close-book.result.book.work.value ≡ c.args.self.work = c.close-book.ensures.label ∙ c.requires.pass.work in
    let stands = subst (λ w. g.W.Work.stands w c.close-book.result.book.sum ds) work c.close-book.ensures.book.sum in
    let runs : c.of.result ≡ runs_of ds = c.of.ensures ∙ ap runs_of c.close-book.ensures.book.ranges in
    subst (λ rs. g.W.Work.stands c.args.self.work c.close-book.result.book.sum (map samples_of rs)) (sym runs)
    ((g.met.W.Work g.world.𝓛 g.world.𝓜 g.world.𝓡 ((λ s x. x), (λ x. x), (λ x. x), λ x. x)).stands_by_samples c.args.self.work c.close-book.result.book.sum ds (map samples_of (runs_of ds)) (runs_stand ds (deposits_apart v c.requires.pass.seat.sound)) stands)
