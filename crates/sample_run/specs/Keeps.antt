-- What a runner is once the result that borrows it is gone.
use Rattle.std.specs.Prelude.{◌≡◌, ⊤, []}
use Rattle.std.specs.Borrow.{follows_so, MutBor, Fml}
use mathlib.Core.Option.{none}
use mir.Syntax.{named}
use Rattle.sample_run.specs.declared.runner.Runner.{Runner}
use Rattle.sample_run.specs.contracts.runner.Runner.{the_row}

-- it has the system and the seed that it had; `named 1` is the place of its lifetime in the signature
abbrev pub Keeps : MutBor Runner → Fml
Keeps r =
    let row = the_row (record { mir = named 1; lft = [] }) in
    follows_so row row r.ghost_name none (λ _ _. ⊤) (λ last. last ≡ r.now)
