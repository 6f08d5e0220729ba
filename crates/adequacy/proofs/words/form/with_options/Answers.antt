use Rattle.std.proofs.Common.{◌≡◌, ◌∙◌, ℕ, ◌+◌, ◌<◌, List, length, get_or, take, fold, ap, sym, arith}
use Rattle.std.specs.Borrow.{Bor}
use Rattle.std.proofs.lemmas.List.Sums.{fold_more}
use Rattle.clap.specs.Words.{App, app_of}
use Rattle.adequacy.specs.Words.{with_option}
use Rattle.adequacy.proofs.words.form.with_options.Goals as goal

-- the form with one more option
one_more : (start now next : App) (names : List (Bor (List ℕ))) (i : ℕ) (d : Bor (List ℕ)) → i < length names
    → now ≡ fold (λ form name. with_option form name.now) start (take i names)
    → next ≡ with_option now (get_or names i d).now
    → next ≡ fold (λ form name. with_option form name.now) start (take (i + 1) names)
one_more start now next names i d lt so_far step =
    step ∙ ap (λ (form : App). with_option form (get_or names i d).now) so_far
    ∙ sym (fold_more (λ form name. with_option form name.now) start names i d lt)

pub loop-name-preserved : goal.loop-name-preserved
loop-name-preserved c =
    let inside : c.loop-name.name-index < length c.args.names.now = omega arith in
    one_more (app_of c.args.command) _ _ c.args.names.now c.loop-name.name-index _ inside c.loop-name.invariant c.in_ok-command.ensures
