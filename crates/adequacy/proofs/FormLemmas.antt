-- What `clap` says of words of the form.
use Rattle.std.proofs.Common.{arith, length, ◌≡◌, ◌⊎◌, ◌∙◌, inl, inr, true, List, [], ap, sym, subst, refl}
use Rattle.std.proofs.lemmas.Bool.{ne_eqb}
use Rattle.std.specs.Prelude.{Result, Err, false, ◌∷◌}
use Rattle.clap.specs.Words.{App, HasMatchesOf, IsAmong, Text, fault_of, found_of, is_simple, is_simple_and_free, matches_of, rows_of}
use Rattle.clap.specs.Walk.{is_empty}
use Rattle.clap.specs.declared.error.kind.ErrorKind.{ErrorKind}
use Rattle.clap.specs.declared.error.kind.ErrorKind.TheVariants as kind
use Rattle.clap.specs.declared.parser.matches.ArgMatches.{ArgMatches}
use Rattle.adequacy.specs.Parse.{IsParse, IsTaken, refusal_of}
use Rattle.adequacy.specs.LineParts.{LineParts}
use Rattle.adequacy.specs.Words.{IsWordsAnswer, form, line_in, line_of}
use Rattle.adequacy.specs.declared.words.fault.WordFault.{WordFault}
use Rattle.adequacy.specs.declared.words.fault.WordsError.{WordsError}
use Rattle.adequacy.specs.declared.words.fault.WordsError.TheVariants as error

form_is_simple : is_simple form ≡ true
unfolding form
form_is_simple = refl

form_is_free : is_simple_and_free form ≡ true
unfolding form
form_is_free = refl

-- an `Ok` of a command that is the form
pub taken : (app : App) → app ≡ form → (words : List Text) (matches : ArgMatches) → HasMatchesOf app words matches
    → (is_simple_and_free app ≡ true → fault_of app words ≡ []) → IsTaken words matches
taken app same words matches has kinds = record {
  faultless = subst (λ (a : App). fault_of a words ≡ []) same (kinds (ap is_simple_and_free same ∙ form_is_free));
  rows = (has (ap is_simple same ∙ form_is_simple)).0 ∙ ap (λ (a : App). matches_of a words) same;
}

refused_by : (words : List Text) (k : ErrorKind) → (fault_of form words ≡ [] → ⊥) → IsParse words (Err (refusal_of k))
refused_by words kind.OutOfMemory fault = tt
refused_by words _ fault = (refl, fault)

among_some : (k : ErrorKind) (kinds : List ErrorKind) → IsAmong k kinds → kinds ≡ [] → ⊥
among_some k kinds among none = subst (IsAmong k) none among

-- an `Err` of it
pub refused : (app : App) → app ≡ form → (words : List Text) (k : ErrorKind)
    → (is_simple_and_free app ≡ true → (k ≡ kind.OutOfMemory) ⊎ IsAmong k (fault_of app words))
    → IsParse words (Err (refusal_of k))
refused app same words k kinds = go (kinds (ap is_simple_and_free same ∙ form_is_free))
  where
    go : (k ≡ kind.OutOfMemory) ⊎ IsAmong k (fault_of app words) → IsParse words (Err (refusal_of k))
    go (inl memory) = subst (λ (x : ErrorKind). IsParse words (Err (refusal_of x))) (sym memory) tt
    go (inr among) =
        refused_by words k (among_some k (fault_of form words) (subst (λ (a : App). IsAmong k (fault_of a words)) same among))

-- words that are taken spell what their matches have
pub taken_line : (words : List Text) (matches : ArgMatches) (read : Result LineParts WordFault) → IsTaken words matches
    → read ≡ line_in (rows_of (found_of matches)) → line_of words ≡ read
unfolding line_of
taken_line words matches read taken is =
    let same : line_in (matches_of form words) ≡ read = ap line_in (sym taken.rows) ∙ sym is in
    rw taken.faultless same

not_empty : (kinds : List ErrorKind) → (kinds ≡ [] → ⊥) → is_empty kinds ≡ false
not_empty [] some = absurd (some refl)
not_empty (k ∷ kinds) some = ne_eqb (length (k ∷ kinds)) 0 (λ none. omega arith)

-- and words that are refused spell no line
pub refused_line : (words : List Text) (error : WordsError) → IsParse words (Err error) → IsWordsAnswer words (Err error)
unfolding line_of
refused_line words error.OutOfMemory parse = tt
refused_line words (error.Words fault) parse =
    let none : is_empty (fault_of form words) ≡ false = not_empty (fault_of form words) parse.1 in
    rw (none, parse.0) refl
