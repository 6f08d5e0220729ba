-- Lines in memory, as their users see them.
use Rattle.std.specs.Prelude.{ℕ, List, Option, Result}
use Rattle.ra_base.specs.declared.console.ConsoleError.{ConsoleError}
use Rattle.ra_base.specs.declared.memory_console.MemoryConsole.{MemoryConsole}

-- the lines that are left
abbrev pub lines_of : MemoryConsole → List (List ℕ)
lines_of console = console.lines.items

-- the numbers of the calls that are to fail
abbrev pub failing_of : MemoryConsole → List ℕ
failing_of console = console.failing.items

-- how many calls there were
abbrev pub calls_of : MemoryConsole → ℕ
calls_of console = console.calls

-- how often a read failed
abbrev pub faults_of : MemoryConsole → ℕ
faults_of console = console.faults

-- what the calls have answered
abbrev pub answers_of : MemoryConsole → List (Result (Option (List ℕ)) ConsoleError)
answers_of console = console.log.items
