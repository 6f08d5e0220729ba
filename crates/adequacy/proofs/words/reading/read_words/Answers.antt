use Rattle.std.proofs.Common.{map}
use Rattle.std.proofs.lemmas.Result.{err_from_is_err_and}
use Rattle.std.specs.String.{string_bytes}
use Rattle.adequacy.proofs.FormLemmas.{refused_line, taken_line}
use Rattle.adequacy.proofs.words.reading.read_words.Goals as goal

pub returns-in_err-matches : goal.returns-in_err-matches
returns-in_err-matches c =
    let p = err_from_is_err_and c.from_residual.result c.from_residual.ensures.1 in
    rw (p.1, p.2) (refused_line (map string_bytes c.args.words.now) c.in_err-matches.field-0.0 c.in_err-matches.ensures)

pub returns-in_err-read_line : goal.returns-in_err-read_line
returns-in_err-read_line c =
    let p = err_from_is_err_and c.from_residual-in_err-read_line.result c.from_residual-in_err-read_line.ensures.1 in
    rw (p.1, p.2)
    (taken_line (map string_bytes c.args.words.now) c.in_ok-matches.matches _ c.in_ok-matches.ensures c.in_err-read_line.ensures)

pub returns : goal.returns
returns c =
    taken_line (map string_bytes c.args.words.now) c.in_ok-matches.matches _ c.in_ok-matches.ensures c.in_ok-read_line.ensures
