use Rattle.std.proofs.Common.{◌≡◌, ◌+◌, ℕ, List, [], ◌∷◌, ◌++◌, length, sym, ap, ◌∙◌, rules, arith}
use Rattle.system_tables.specs.AmountRows.{HeldRows, rows_of}
use Rattle.system_tables.proofs.AmountRowLaws.{length-rows_of, rows_of-push}
use Rattle.system_tables.proofs.amount_rows.AmountRows.push.Goals as goal

pub overflow_add-self : goal.overflow_add-self
overflow_add-self c =
    let count : c.self.inside.count ≡ length c.args.self.now.rows =
    sym (length-rows_of c.self.inside.width c.self.inside.count c.self.inside.amounts.items)
    ∙ ap (λ (held : HeldRows). length held.rows) c.self.view_is in
    omega arith

pub returns : goal.returns
returns c =
    let wide : length c.args.row.now ≡ c.self.inside.width =
    c.requires.width ∙ sym (ap (λ (held : HeldRows). held.width) c.self.view_is) in
    let added : c.append.new.list.items ≡ c.self.inside.amounts.items ++ c.args.row.now = search rules in
    ap (λ (xs : List ℕ). record { width = c.self.inside.width; rows = rows_of c.self.inside.width (c.self.inside.count + 1) xs }) added
    ∙ ap (λ (xs : List (List ℕ)). record { width = c.self.inside.width; rows = xs })
    (rows_of-push c.self.inside.width c.self.inside.count c.self.inside.amounts.items c.args.row.now c.self.invariant wide)
    ∙ ap (λ (held : HeldRows). record held { rows = held.rows ++ c.args.row.now ∷ [] }) c.self.view_is
