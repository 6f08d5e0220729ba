use Rattle.std.proofs.Common.{◌≡◌, true, false, List, ℕ, sym, ap, ◌∙◌}
use Rattle.std.specs.Global.{Vec}
use Rattle.std.specs.List.{list_any}
use Rattle.std.specs.Str.{bytes_eq}
use Rattle.system_tables.specs.Names.{is_among}
use Rattle.system_tables.proofs.NameLaws.{list_any-keys, not-true, not-false}
use Rattle.system_tables.proofs.names.Names.add.Goals as goal

pub returns-clause-new : goal.returns-clause-new
returns-clause-new c = λ e.
    let new : c.in_ok-is_new.is_new ≡ true = cc in
    ap (is_among c.args.name.now) (sym c.self.view_is)
    ∙ sym (list_any-keys c.args.name.now c.self.inside.names.keys)
    ∙ ap (λ (n : List ℕ). list_any (λ (k : Vec ℕ). bytes_eq n k.items) c.self.inside.names.keys) (sym c.in_ok-key.ensures.items)
    ∙ not-true _ _ c.in_ok-is_new.ensures.added new

pub returns-clause-there : goal.returns-clause-there
returns-clause-there c = λ e.
    let old : c.in_ok-is_new.is_new ≡ false = cc in
    ap (is_among c.args.name.now) (sym c.self.view_is)
    ∙ sym (list_any-keys c.args.name.now c.self.inside.names.keys)
    ∙ ap (λ (n : List ℕ). list_any (λ (k : Vec ℕ). bytes_eq n k.items) c.self.inside.names.keys) (sym c.in_ok-key.ensures.items)
    ∙ not-false _ _ c.in_ok-is_new.ensures.added old
