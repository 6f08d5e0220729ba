use Rattle.std.proofs.Common.{Ok, sym, ap, subst, ◌∙◌}
use Rattle.system_maker.specs.MadeSystem.{made_system}
use Rattle.adequacy.specs.CommandWords.{is_trial}
use Rattle.adequacy.specs.Folder.{ComesTo}
use Rattle.adequacy.specs.LineParts.{LineParts}
use Rattle.adequacy.proofs.SourceLemmas.{made_unread}
use Rattle.adequacy.proofs.sources.find_system.Goals as goal

pub returns-then-is_trial-clause-reads : goal.returns-then-is_trial-clause-reads
returns-then-is_trial-clause-reads g c =
    made_unread _ c.args.line.now c.make_system.result _ _
    (ap (λ (l : LineParts). is_trial l.command) (sym c.line.view_is) ∙ (sym c.is_trial.ensures ∙ c.if-is_trial.true))
    (subst (λ (l : LineParts). ComesTo (Ok (made_system l.number)) c.make_system.result) c.line.view_is c.make_system.ensures)
