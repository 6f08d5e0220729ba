use Rattle.std.proofs.Common.{rules, ◌≡◌, ◌≤◌, length, sym, take}
use Rattle.std.proofs.lemmas.List.{take_all, length-take-le}
use Rattle.ra_base.proofs.memory_console.cut.Goals as goal

pub returns-then-line-most-clause-cut : goal.returns-then-line-most-clause-cut
returns-then-line-most-clause-cut c =
    let fits : length c.args.line.now ≤ 4097 = search rules in
    sym (take_all 4097 c.args.line.now fits)

pub slice_bounds-result-end : goal.slice_bounds-result-end
slice_bounds-result-end c =
    let longer : 4097 ≤ length c.args.line.now = search rules in
    sym (length-take-le 4097 c.args.line.now longer)

pub returns-clause-short : goal.returns-clause-short
returns-clause-short c =
    let longer : 4097 ≤ length c.args.line.now = search rules in
    let whole : length (take 4097 c.args.line.now) ≡ 4097 = length-take-le 4097 c.args.line.now longer in
    search rules
