-- The run of a line that is no console's, by all that it touches outside: the console is as it was.
use Rattle.std.proofs.Common.{◌≡◌, ℕ, false, List, Option, refl, sym, subst, inl, arith}
use Rattle.ra_base.specs.Causes.{Counts}
use Rattle.ra_base.specs.Outside.{Tables}
use Rattle.ra_base.specs.Reading.{Reading}
use Rattle.ra_base.specs.declared.shelf_counts.ShelfCounts.{ShelfCounts}
use Rattle.ra_base.specs.declared.status.Status.{Status}
use Rattle.ra_base.specs.declared.status.Status.TheVariants as status
use Rattle.campaign_console.specs.LineEnds.{Outside}
use Rattle.sample_totals.specs.Recorders.{Seen}
use Rattle.adequacy.specs.CommandWords.{is_console}
use Rattle.adequacy.specs.Endings.{HasRun, says_read_fault, says_write_fault}
use Rattle.adequacy.specs.LineParts.{LineParts}
use Rattle.adequacy.specs.Requests.{request_of}
use Rattle.adequacy.specs.Runs.{EndsBy, FaultCounts, IsUnasked, LineRan, ReadFaults}
use Rattle.adequacy.specs.Sources.{made_number, system_outcome}
use Rattle.adequacy.specs.declared.words.request.ConsoleTerms.{ConsoleTerms}
use Rattle.adequacy.proofs.ConsoleLemmas.{no_console}

pub line_ran : (contents : Option Tables) (line : LineParts) (seen : List Seen) (ends : Status) (reads reads' : List Reading) (counts counts' : ShelfCounts) (before now : Outside) (said said' : Option (List ℕ)) (faults faults' : ℕ)
    → is_console line.command ≡ false → IsUnasked before now
    → HasRun contents line seen ends reads reads' counts counts' before.held now.held said said' faults faults'
    → LineRan contents line seen ends reads reads' counts counts' before now said said' faults faults'
line_ran contents line seen ends reads reads' counts counts' before now said said' f f' is unasked run = record {
  tables = run.tables;
  ending = run.ending;
  read = run.read;
  ended =
      subst (λ (asked : Option ConsoleTerms). EndsBy asked (request_of line) seen (system_outcome (made_number line) run.tables) run.ending before now)
      (sym (no_console line.command line is)) (run.ended, unasked);
  told = run.told;
}

pub others_read : (ends : Status) (shelf shelf' console : ℕ) → Counts (says_read_fault ends) shelf shelf' → ReadFaults ends shelf shelf' console console
others_read status.Done shelf shelf' console counts = (counts, refl)
others_read status.Words shelf shelf' console counts = (counts, refl)
others_read status.Table shelf shelf' console counts = (counts, refl)
others_read status.ReadFault shelf shelf' console counts = inl (counts, refl)
others_read status.WriteFault shelf shelf' console counts = (counts, refl)
others_read status.OutOfMemory shelf shelf' console counts = (counts, omega arith)
others_read status.Cancelled shelf shelf' console counts = (counts, refl)
others_read status.RecorderRefused shelf shelf' console counts = (counts, refl)

pub others_write : (ends : Status) (before now : ℕ) → Counts (says_write_fault ends) before now → FaultCounts (says_write_fault ends) ends before now
others_write status.Done before now counts = counts
others_write status.Words before now counts = counts
others_write status.Table before now counts = counts
others_write status.ReadFault before now counts = counts
others_write status.WriteFault before now counts = counts
others_write status.OutOfMemory before now counts = omega (arith, counts)
others_write status.Cancelled before now counts = counts
others_write status.RecorderRefused before now counts = counts
