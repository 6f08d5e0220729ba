use Rattle.std.proofs.Common.{rules, ◌≡◌, ◌+◌, IfSome, length, [], ◌∷◌, ◌++◌, ap, sym, ◌∙◌, subst, arith}
use Rattle.std.proofs.lemmas.Bool.{or_parts}
use Rattle.std.proofs.lemmas.List.Elements.{All-same, All-push, All-pop}
use Rattle.turn_book.proofs.SeatLemmas.{owns_self}
use Rattle.turn_book.specs.declared.view.View.{View}
use Rattle.campaign.specs.Passes.{pass_of, work_of}
use Rattle.campaign_workers.specs.Crews.{Joins}
use Rattle.campaign_workers.proofs.CrewLaws.{did_same, did_stop, joins_more, crew_more, reached_more, one_fewer}
use Rattle.campaign_workers.proofs.crew.+crew.Goals as goal

pub join-other-requires-after_bounds : goal.join-other-requires-after_bounds
join-other-requires-after_bounds g t c κs within =
    let P = λ (j : g.row.J.Denot). g.J.Job.serves j (work_of c.args.campaign.now) in
    let jobs = All-pop P c.args.jobs.items c.pop.new.self.items c.pop.result c.pop.ensures.items c.requires.jobs in
    let mine : P c.in-Some.job = subst (λ r. IfSome r P) c.in-Some.is jobs.1 in
    let fewer : length c.pop.new.self.items + 1 ≡ length c.args.jobs.items = one_fewer c.args.jobs.items c.pop.new.self.items c.in-Some.job c.in-Some.ensures.items in
    let made = c.split_pass-mine.ensures.made in
    let number = ap (λ (x : View _). x.number) made ∙ c.requires.opening in
    let room = ap (λ (x : View _). x.made) made in (
      (
        (search rules, search rules, search rules, c.split_pass-mine.ensures.other, mine),
        (search rules, search rules, search rules, search rules, search rules, search rules),
      ),
      (
        search rules,
        (
          λ a m. m,
          (
            λ a m. m,
            (
              λ a m. m,
              (
                λ a m. m,
                (
                  λ a m. m,
                  (
                    (search rules, search rules, search rules, c.split_pass-mine.ensures.pass, number, omega (arith, room, fewer, c.requires.room), jobs.0),
                    (search rules, search rules, search rules, search rules, search rules, search rules),
                  ),
                ),
              ),
            ),
          ),
        ),
      ),
    )

pub join_pass-requires-clause-opening : goal.join_pass-requires-clause-opening
join_pass-requires-clause-opening g t c κs within e =
    let m = pass_of c.split_pass-mine.result in
    let n = pass_of c.join-other.result.0.0 in
    let same = did_same m c.join-other.result.0.1 n c.join-other.ensures.first.1.0 in
    let made = ap (λ (x : View _). x.number) c.split_pass-mine.ensures.view in
    omega (arith, e, same.number, made, c.requires.pass.seat.sound.below c.requires.opening (pass_of c.args.pass).number (owns_self (pass_of c.args.pass)))

pub returns-clause-joins : goal.returns-clause-joins
returns-clause-joins g t c =
    let v = pass_of c.args.pass in
    let w = pass_of c.join_pass.new.keep in
    let workers = length c.pop.new.self.items in
    subst (λ n. Joins n v w) (one_fewer c.args.jobs.items c.pop.new.self.items c.in-Some.job c.in-Some.ensures.items)
    (joins_more v (pass_of c.split_pass-mine.new.pass) (pass_of c.split_pass-mine.result) (pass_of c.join-other.result.0.0) (pass_of c.join-other.result.1.pass) w c.split_pass-mine.ensures.made c.split_pass-mine.ensures.view workers c.join-other.ensures.second.1.0 c.join-other.result.0.1 c.join-other.ensures.first.1.0 c.join_pass.ensures.joined)

pub returns-clause-works : goal.returns-clause-works
returns-clause-works g t c e =
    let v = pass_of c.args.pass in
    let m = pass_of c.split_pass-mine.result in
    let n = pass_of c.join-other.result.0.0 in
    let parts = or_parts c.join-other.result.1.short c.is_short.result e in
    let stop = did_stop m c.join-other.result.0.1 n (sym c.is_short.ensures ∙ parts.1) c.join-other.ensures.first.1.0 in
    crew_more v (pass_of c.split_pass-mine.new.pass) m n (pass_of c.join-other.result.1.pass) (pass_of c.join_pass.new.keep) c.split_pass-mine.ensures.made c.split_pass-mine.ensures.view (length c.pop.new.self.items) c.join-other.ensures.second.1.0 c.join-other.result.0.1 c.join-other.ensures.first.1.0 c.join_pass.ensures.joined stop (c.join-other.ensures.second.1.1.0 parts.0) c.join_pass.ensures.out

pub returns-clause-reached : goal.returns-clause-reached
returns-clause-reached g t c e some =
    let v = pass_of c.args.pass in
    let m = pass_of c.split_pass-mine.result in
    let n = pass_of c.join-other.result.0.0 in
    let parts = or_parts c.join-other.result.1.short c.is_short.result e in
    let stop = did_stop m c.join-other.result.0.1 n (sym c.is_short.ensures ∙ parts.1) c.join-other.ensures.first.1.0 in
    reached_more v (pass_of c.split_pass-mine.new.pass) m n (pass_of c.join-other.result.1.pass) (pass_of c.join_pass.new.keep) c.split_pass-mine.ensures.made c.split_pass-mine.ensures.view (length c.pop.new.self.items) c.join-other.ensures.second.1.0 c.join-other.result.0.1 c.join-other.ensures.first.1.0 c.join_pass.ensures.joined stop

pub returns-clause-jobs : goal.returns-clause-jobs
returns-clause-jobs g t c =
    let P = λ (j : g.row.J.Denot). g.J.Job.serves j (work_of c.args.campaign.now) in
    All-same P c.push_reserved.new.self.items (c.join-other.result.1.jobs.items ++ c.join-other.result.0.2 ∷ []) c.push_reserved.ensures.items
    (All-push P c.join-other.result.1.jobs.items c.join-other.result.0.2 c.join-other.ensures.second.1.1.1.1.1 c.join-other.ensures.first.1.1)
