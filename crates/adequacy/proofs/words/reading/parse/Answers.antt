use Rattle.std.proofs.Common.{◌∙◌, ap, map, subst, sym}
use Rattle.std.specs.Prelude.{Err}
use Rattle.std.specs.String.{string_bytes}
use Rattle.clap.specs.Words.{app_of}
use Rattle.adequacy.specs.Parse.{IsParse, refusal_of}
use Rattle.adequacy.specs.declared.words.fault.WordsError.{WordsError}
use Rattle.adequacy.proofs.FormLemmas.{taken, refused}
use Rattle.adequacy.proofs.words.reading.parse.Goals as goal

pub returns-in-Ok : goal.returns-in-Ok
returns-in-Ok c =
    taken (app_of c.in_ok-command.command) c.in_ok-command.ensures (map string_bytes c.args.words.now) c.in-Ok.matches
    c.in-Ok.ensures.matches c.in-Ok.ensures.kinds

pub returns-in-Err : goal.returns-in-Err
returns-in-Err c =
    let words = map string_bytes c.args.words.now in
    let kind_is = c.refusal.ensures ∙ ap refusal_of c.kind.ensures in
    subst (λ (error : WordsError). IsParse words (Err error)) (sym kind_is)
    (refused (app_of c.in_ok-command.command) c.in_ok-command.ensures words _ c.in-Err.ensures.kinds)
