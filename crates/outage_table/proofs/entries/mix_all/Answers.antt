use Rattle.std.proofs.Common.{◌≡◌, ◌-◌, set, get_or, inl, inr, ap, subst, ◌∙◌, arith}
use Rattle.std.proofs.lemmas.Bool.{cases_lt}
use Rattle.std.proofs.lemmas.List.{get_or-set_same, get_or-set_other}
use Rattle.fixed_interval.specs.Rounding.{floor_div, ceil_div}
use Rattle.outage_table.specs.Fleet.{moved}
use Rattle.outage_table.proofs.MixLaws.{ReadsTwo, reads_falls, low_made, high_made}
use Rattle.outage_table.proofs.entries.mix_all.Goals as goal

pub towards-requires : goal.towards-requires
towards-requires c =
    let reads : ReadsTwo c.loop-x.entries c.args.entries.now (c.loop-x.x - 1) c.args.capacity c.index-entries-x.result c.index-entries-saturating_sub.result
    = record {
      within = omega arith;
      still = λ j d l. c.loop-x.invariant.still j d (omega arith);
      first = c.index-entries-x.is;
      second = rw (← c.saturating_sub.ensures) c.index-entries-saturating_sub.is;
    } in
    let falls = reads_falls _ _ _ _ _ _ reads c.requires c.loop-x.auto.entries in
    record { low = falls.0; high = falls.1.0; part = falls.1.1 }

pub loop-x-preserved : goal.loop-x-preserved
loop-x-preserved c =
    let reads : ReadsTwo c.loop-x.entries c.args.entries.now (c.loop-x.x - 1) c.args.capacity c.index-entries-x.result c.index-entries-saturating_sub.result
    = record {
      within = omega arith;
      still = λ j d l. c.loop-x.invariant.still j d (omega arith);
      first = c.index-entries-x.is;
      second = rw (← c.saturating_sub.ensures) c.index-entries-saturating_sub.is;
    } in
    record {
      still = λ k d h. get_or-set_other c.loop-x.entries (c.loop-x.x - 1) k c.towards.result d (λ e. omega arith) ∙ c.loop-x.invariant.still k d (omega arith);
      low = λ k d h w. elim (cases_lt k c.loop-x.x) [
        | inl near ↦
            (let at : c.loop-x.x - 1 ≡ k = omega arith in
            subst (λ j. (get_or (set c.loop-x.entries (c.loop-x.x - 1) c.towards.result) j d).low ≡ moved floor_div c.args.share.out c.args.share.all c.args.capacity (λ y. (get_or c.args.entries.now y d).low) j) at
            (ap (λ e. e.low) (get_or-set_same c.loop-x.entries (c.loop-x.x - 1) c.towards.result d (omega arith))
            ∙ low_made _ _ _ _ _ _ _ _ c.towards.result d reads c.towards.ensures.low))
        | inr far ↦
            ap (λ e. e.low) (get_or-set_other c.loop-x.entries (c.loop-x.x - 1) k c.towards.result d (λ e. omega arith)) ∙ c.loop-x.invariant.low k d far w
      ];
      high = λ k d h w. elim (cases_lt k c.loop-x.x) [
        | inl near ↦
            (let at : c.loop-x.x - 1 ≡ k = omega arith in
            subst (λ j. (get_or (set c.loop-x.entries (c.loop-x.x - 1) c.towards.result) j d).high ≡ moved ceil_div c.args.share.out c.args.share.all c.args.capacity (λ y. (get_or c.args.entries.now y d).high) j) at
            (ap (λ e. e.high) (get_or-set_same c.loop-x.entries (c.loop-x.x - 1) c.towards.result d (omega arith))
            ∙ high_made _ _ _ _ _ _ _ _ c.towards.result d reads c.towards.ensures.high))
        | inr far ↦
            ap (λ e. e.high) (get_or-set_other c.loop-x.entries (c.loop-x.x - 1) k c.towards.result d (λ e. omega arith)) ∙ c.loop-x.invariant.high k d far w
      ];
    }
