use Rattle.std.proofs.Common.{◌≡◌, sym, subst, ap, ◌∙◌, ◌∷◌, ◌++◌, [], Some}
use Rattle.turn_book.proofs.OpenLemmas.{opened_kept, opened_of}
use Rattle.turn_book.proofs.seats.TurnBook.open.Goals as goal

pub new-requires : goal.new-requires
new-requires g c =
    let slots : c.push_reserved.new.self.items ≡ Some c.of.result.value ∷ [] =
    c.push_reserved.ensures.items ∙ (ap (λ l. l ++ Some c.args.book ∷ []) c.in-Ok.ensures.items ∙ ap (λ b. Some b ∷ []) (sym c.of.ensures)) in
    rw slots
    (opened_kept g.B.Booked.keeps g.B.Booked.label (record { target = c.args.target; block = c.args.block; book = c.of.result }) c.requires.target c.requires.block
    (subst (λ b. g.B.Booked.keeps b []) (sym c.of.ensures) c.requires.book) c.word_of-gate.result c.word_of-gate.ensures)

pub returns-in-Ok-new-clause-seat : goal.returns-in-Ok-new-clause-seat
returns-in-Ok-new-clause-seat g c =
    let e = c.in-Ok-new.ensures.ok in
    opened_of _ _ (record { target = c.args.target; block = c.args.block; book = c.of.result }) e.5 e.2 e.4 c.requires.target c.requires.block g.B.Booked.keeps g.B.Booked.label
