use Rattle.std.proofs.Common.{refl, arith}
use Rattle.system_model.proofs.HourLists.{hours_of-none}
use Rattle.system_model.proofs.DraftSteps.{within-none}
use Rattle.system_model.proofs.drafts.Draft.new.Goals as goal

pub invariant_of-result : goal.invariant_of-result
invariant_of-result c =
    record {
      filled = rw (c.new.ensures.items, c.new-10.ensures.items, c.new-11.ensures.items) (record { load_size = omega arith; variable_size = omega arith });
      within = rw (c.new.ensures.items, c.new-2.ensures.items, c.new-3.ensures.items, c.new-4.ensures.items, c.new-5.ensures.items, c.new-6.ensures.items, c.new-7.ensures.items, c.new-8.ensures.items, c.new-9.ensures.items, c.new-10.ensures.items, c.new-11.ensures.items, hours_of-none) within-none;
    }

pub returns : goal.returns
returns c = rw (c.new.ensures.items, c.new-2.ensures.items, c.new-3.ensures.items, c.new-4.ensures.items, c.new-5.ensures.items, c.new-6.ensures.items, c.new-7.ensures.items, c.new-8.ensures.items, c.new-9.ensures.items, c.new-10.ensures.items, c.new-11.ensures.items, hours_of-none) refl
