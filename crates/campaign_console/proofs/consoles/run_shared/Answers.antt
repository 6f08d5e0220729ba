use mir.Syntax.{named}
use denote.Ref.{NamedLft}
use Rattle.campaign_console.proofs.Crossing.{shared_sync}
use Rattle.campaign_console.proofs.consoles.run_shared.Goals as goal

-- the struct's two lifetimes are that of what it lends and that of the system
pub run_together-requires-sync-S : goal.run_together-requires-sync-S
run_together-requires-sync-S g c κs within =
    let lent : NamedLft = record { mir = named 0; lft = κs.1.1.1.1.1.1.1.1.1.1.1.0 } in
    let system : NamedLft = record { mir = named 1; lft = κs.1.1.1.1.1.1.0 } in
    record { shared = λ x b o κ. (shared_sync lent system _ c.type_bounds.sync-P).shared x b o κ }
