use Rattle.std.proofs.Common.{◌≡◌, ◌==◌, ◌&&◌, not, length, map, true, false, sym, ap, ◌∙◌, subst}
use Rattle.campaign_core.specs.Ranges.{samples_of, runs_of, AreDisjoint}
use Rattle.campaign_core.specs.History.{deposits_of}
use Rattle.turn_book.specs.Seated.{view_of}
use Rattle.campaign.specs.Books.{IsBook}
use Rattle.campaign.proofs.PassLaws.{deposits_apart, runs_stand, says_report, report_sample}
use Rattle.campaign.proofs.reports.Shared+Book+W+W.interim.Goals.{then-not-is_empty, else-not-is_empty}
use Rattle.campaign.proofs.reports.Shared+Book+W+W.interim.Goals as goal

pub of-runs-requires-clause-disjoint : goal.of-runs-requires-clause-disjoint
of-runs-requires-clause-disjoint g c =
    let t = view_of c.take-held.new.seat in
    let list : map samples_of c.in-Ok.list.items ≡ deposits_of t.seen = ap (map samples_of) (c.in-Ok.ensures.list ∙ ap (λ b. b.ranges.items) c.book.ensures) ∙ c.take-held.ensures.book.ranges in
    subst AreDisjoint (sym list) (deposits_apart t c.take-held.ensures.seat.sound)

pub enough-enough-requires : goal.enough-enough-requires
enough-enough-requires g c =
    let t = view_of c.take-held.new.seat in
    let ds = deposits_of t.seen in
    let list : map samples_of c.in-Ok.list.items ≡ ds = ap (map samples_of) (c.in-Ok.ensures.list ∙ ap (λ b. b.ranges.items) c.book.ensures) ∙ c.take-held.ensures.book.ranges in
    let runs : c.of-runs.result ≡ runs_of ds = c.of-runs.ensures ∙ ap runs_of list in
    let stands = c.in-Ok.ensures.sum ds (subst (λ b. IsBook g.W.Work.stands b ds) (sym c.book.ensures) c.take-held.ensures.book) in
    let some : (length (runs_of ds) == 0) ≡ false = ap (λ rs. length rs == 0) (sym runs) ∙ (sym c.is_empty.ensures ∙ c.if-not-is_empty.true) in (
      map samples_of (runs_of ds),
      (g.met.W.Work g.world.𝓛 g.world.𝓜 g.world.𝓡 ((λ s x. x), (λ x. x), (λ x. x), λ x. x)).stands_by_samples c.args.self.now.work c.in-Ok.sum ds (map samples_of (runs_of ds)) (runs_stand ds (deposits_apart t c.take-held.ensures.seat.sound)) stands,
      report_sample ds some,
    )

pub returns-after-not-is_empty-clause-made : goal.returns-after-not-is_empty-clause-made
returns-after-not-is_empty-clause-made g c =
    let t = view_of c.take-held.new.seat in
    let list : map samples_of c.in-Ok.list.items ≡ deposits_of t.seen = ap (map samples_of) (c.in-Ok.ensures.list ∙ ap (λ b. b.ranges.items) c.book.ensures) ∙ c.take-held.ensures.book.ranges in
    let runs : c.of-runs.result ≡ runs_of (deposits_of t.seen) = c.of-runs.ensures ∙ ap runs_of list in
    says_report (view_of c.args.pass.now.seat) t (view_of c.look-gate.new.seat) c.look-gate.result (view_of c.leave.new.seat) c.of-runs.result c.requires.free c.take-held.ensures.taken c.look-gate.ensures.looked c.leave.ensures.left runs

pub returns-after-not-is_empty-clause-sum : goal.returns-after-not-is_empty-clause-sum
returns-after-not-is_empty-clause-sum g c =
    let t = view_of c.take-held.new.seat in
    let ds = deposits_of t.seen in
    let list : map samples_of c.in-Ok.list.items ≡ ds = ap (map samples_of) (c.in-Ok.ensures.list ∙ ap (λ b. b.ranges.items) c.book.ensures) ∙ c.take-held.ensures.book.ranges in
    let runs : c.of-runs.result ≡ runs_of ds = c.of-runs.ensures ∙ ap runs_of list in
    let stands = c.in-Ok.ensures.sum ds (subst (λ b. IsBook g.W.Work.stands b ds) (sym c.book.ensures) c.take-held.ensures.book) in
    subst (λ rs. g.W.Work.stands c.args.self.now.work c.in-Ok.sum (map samples_of rs)) (sym runs)
    ((g.met.W.Work g.world.𝓛 g.world.𝓜 g.world.𝓡 ((λ s x. x), (λ x. x), (λ x. x), λ x. x)).stands_by_samples c.args.self.now.work c.in-Ok.sum ds (map samples_of (runs_of ds)) (runs_stand ds (deposits_apart t c.take-held.ensures.seat.sound)) stands)

pub returns-after-not-is_empty-clause-enough : goal.returns-after-not-is_empty-clause-enough
returns-after-not-is_empty-clause-enough g c =
    elim c.if-not-is_empty.branch [
      | then-not-is_empty w ↦
          let some : (length c.of-runs.result == 0) ≡ false = sym c.is_empty.ensures ∙ w.if-not-is_empty.true in
          let told = w.enough-is ∙ w.enough-enough.ensures (map samples_of c.of-runs.result) (returns-after-not-is_empty-clause-sum g c) in
          told ∙ ap (λ b. not b && g.W.Work.is_enough c.args.self.now.work (map samples_of c.of-runs.result)) (sym some)
      | else-not-is_empty w ↦
          let none : (length c.of-runs.result == 0) ≡ true = sym c.is_empty.ensures ∙ w.if-not-is_empty.false in
          let told : c.if-not-is_empty.enough ≡ false = w.enough-is ∙ ap not w.if-not-is_empty.false in
          told ∙ ap (λ b. not b && g.W.Work.is_enough c.args.self.now.work (map samples_of c.of-runs.result)) (sym none)
    ]
