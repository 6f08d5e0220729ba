use Rattle.std.proofs.Common.{◌≡◌, List, [], ◌∷◌, Result, Ok, Err, refl, sym, ap, ◌∙◌}
use Rattle.system_tables.specs.declared.faults.TableFault.{TableFault}
use Rattle.system_tables.specs.declared.faults.ReadError.{ReadError}
use Rattle.system_tables.specs.declared.faults.ReadError.TheVariants.{Table, OutOfMemory}
use Rattle.system_tables.specs.Faults.{◌>>=◌, in_turn}
use Rattle.system_tables.specs.Outcome.{GivesNow}

in_turn-none : {A B : Type 0} (one : A → B → Result A TableFault) (above : A) → in_turn one above [] ≡ Ok above
unfolding in_turn
in_turn-none one above = refl

in_turn-cons : {A B : Type 0} (one : A → B → Result A TableFault) (above : A) (item : B) (items : List B)
    → in_turn one above (item ∷ items) ≡ (one above item >>= (λ next. in_turn one next items))
unfolding in_turn
in_turn-cons one above item items = refl

-- nothing is left
pub in_turn-end : {A B : Type 0} (one : A → B → Result A TableFault) (above : A) (items : List B)
    → items ≡ []
    → in_turn one above items ≡ Ok above
in_turn-end one above items e = ap (in_turn one above) e ∙ in_turn-none one above

-- one item was read
pub in_turn-ok : {A B : Type 0} (one : A → B → Result A TableFault) (above next : A) (all : List B) (item : B) (items : List B)
    → all ≡ item ∷ items
    → one above item ≡ Ok next
    → in_turn one next items ≡ in_turn one above all
in_turn-ok {A} one above next all item items e h =
    sym (ap (in_turn one above) e ∙ in_turn-cons one above item items
    ∙ ap (λ (r : Result A TableFault). r >>= (λ n. in_turn one n items)) h)

-- one item has a fault
pub in_turn-err : {A B : Type 0} (one : A → B → Result A TableFault) (above : A) (all : List B) (item : B) (items : List B) (fault : TableFault)
    → all ≡ item ∷ items
    → one above item ≡ Err fault
    → in_turn one above all ≡ Err fault
in_turn-err {A} one above all item items fault e h =
    ap (in_turn one above) e ∙ in_turn-cons one above item items
    ∙ ap (λ (r : Result A TableFault). r >>= (λ n. in_turn one n items)) h

-- what an unread item answers, a loop answers
pub stops : {A B : Type 0} (one : A → B → Result A TableFault) (start above left : A) (first all : List B) (item : B) (items : List B) (e : ReadError)
    → in_turn one above all ≡ in_turn one start first
    → all ≡ item ∷ items
    → GivesNow {U = Unit {0}} (one above item) (Err e) left
    → GivesNow {U = Unit {0}} (in_turn one start first) (Err e) left
stops one start above left first all item items (Table fault) same next h =
    sym same ∙ in_turn-err one above all item items fault next h
stops one start above left first all item items OutOfMemory same next h = tt
