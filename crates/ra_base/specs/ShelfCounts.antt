-- How a read's answer is counted.
use Rattle.std.specs.Prelude.{ℕ, List, Result, Ok, Err}
use Rattle.ra_base.specs.Causes.{one_more}
use Rattle.ra_base.specs.declared.shelf.ShelfError.{ShelfError}
use Rattle.ra_base.specs.declared.shelf.ShelfError.TheVariants.{Missing, TooLong, Fault, OutOfMemory}
use Rattle.ra_base.specs.declared.shelf_counts.ShelfCounts.{ShelfCounts}

-- the counts after a read with this answer: one of them is one more, or none where the table was read or memory
-- wasn't found
abbrev pub counted : ShelfCounts → Result (List ℕ) ShelfError → ShelfCounts
counted counts (Ok text) = counts
counted counts (Err Missing) = record counts { misses = one_more counts.misses }
counted counts (Err TooLong) = record counts { overlong = one_more counts.overlong }
counted counts (Err Fault) = record counts { faults = one_more counts.faults }
counted counts (Err OutOfMemory) = counts
