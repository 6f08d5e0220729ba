use Rattle.std.proofs.Common.{◌≡◌, ℕ, zero, suc, ◌+◌, ◌<◌, ◌≤◌, ◌==◌, Bool, true, false, if◌then◌else◌, List, [], ◌∷◌, ◌++◌, length, ◌&&◌, not, Option, Some, None, refl, sym, ap, ◌∙◌, subst, arith}
use Rattle.std.proofs.lemmas.Bool.{false≢true}
use Rattle.csv.specs.declared.parser.Action.{Action}
use Rattle.csv.specs.declared.parser.Action.TheVariants as act
use Rattle.csv.specs.declared.parser.State.{State}
use Rattle.csv.specs.declared.parser.State.TheVariants as st
use Rattle.csv.specs.declared.parser.Terminator.TheVariants as term
use Rattle.csv.specs.Machine.{Read, step, in_field, start_field, start_record, after_end, ends_with, ends_at_end, is_end, fields_after, field_after, next_record}
use Rattle.std.specs.Borrow.{Bor}
use Rattle.std.specs.Option.{is_some}
use Rattle.csv.specs.Reading.{default_config, records_from, records_next, NextIs, ReadsNext, ReadRecord, source_of, pending_of, strip_bom, has_failed, reader_config, reader_state}
use Rattle.csv.specs.declared.reader.Reader.{Reader}
use Rattle.system_tables.specs.Reader.{all_from}

-- a record's end leaves a state between two records
abbrev IsBetween : State × Action → Type 0
IsBetween r = is_end r.1 ≡ true → ends_at_end r.0 ≡ false

between-if : (b : Bool) (x y : State × Action) → IsBetween x → IsBetween y → IsBetween (if b then x else y)
between-if true x y hx hy = hx
between-if false x y hx hy = hy

after-end : (b : Bool) → ends_at_end (if b then st.AfterCr else st.StartRecord) ≡ false
after-end true = refl
after-end false = refl

between-in_field : (c : ℕ) → IsBetween (in_field default_config c)
between-in_field c =
    between-if (c == 44) (st.StartField, act.EndField) _ (λ e. absurd (false≢true e))
    (between-if (ends_with term.CRLF c) (after_end term.CRLF c, act.EndRecord) (st.InField, act.Copy)
    (λ e. after-end (c == 13)) (λ e. absurd (false≢true e)))

between-start_field : (c : ℕ) → IsBetween (start_field default_config c)
between-start_field c =
    between-if (c == 34) (st.InQuoted, act.Skip) (in_field default_config c) (λ e. absurd (false≢true e))
    (between-in_field c)

between-start_record : (c : ℕ) → IsBetween (start_record default_config c)
between-start_record c =
    between-if (ends_with term.CRLF c) (st.StartRecord, act.Skip) (start_field default_config c)
    (λ e. absurd (false≢true e)) (between-start_field c)

between-step : (s : State) (c : ℕ) → IsBetween (step default_config s c)
between-step st.StartRecord c = between-start_record c
between-step st.StartField c = between-start_field c
between-step st.InField c = between-in_field c
between-step st.InQuoted c =
    between-if (c == 34) (st.AfterQuote, act.Skip) (st.InQuoted, act.Copy) (λ e. absurd (false≢true e))
    (λ e. absurd (false≢true e))
between-step st.InEscape c = λ e. absurd (false≢true e)
between-step st.AfterQuote c =
    between-if (c == 34) (st.InQuoted, act.Copy) (in_field default_config c) (λ e. absurd (false≢true e))
    (between-in_field c)
between-step st.InComment c =
    between-if (c == 10) (st.StartRecord, act.Skip) (st.InComment, act.Skip) (λ e. absurd (false≢true e))
    (λ e. absurd (false≢true e))
between-step st.AfterCr c =
    between-if (c == 10) (st.StartRecord, act.Skip) (start_record default_config c) (λ e. absurd (false≢true e))
    (between-start_record c)

-- what is left of the bytes is shorter, and the state is one between two records
pub record IsNext (s : State) (xs : List ℕ) (p : Read) : Type 0 where
  pub between : ends_at_end p.1 ≡ false
  pub no_longer : length p.2 ≤ length xs
  pub shorter : ends_at_end s ≡ false → length p.2 < length xs

some_is : {A : Type 0} (x y : A) → Some x ≡ Some y → x ≡ y
some_is x y e = cc

at_end : (b : Bool) (s : State) (fields : List (List ℕ)) (p : Read)
    → ends_at_end s ≡ b
    → (if b then Some (fields, st.StartRecord, []) else None) ≡ Some p
    → IsNext s [] p
at_end true s fields p is e =
    let same : (fields, st.StartRecord, []) ≡ p = cc in
    subst (λ (q : Read). IsNext s [] q) same (record {
      between = refl;
      no_longer = omega arith;
      shorter = λ f. absurd (false≢true (sym f ∙ is));
    })
at_end false s fields p is e = absurd (cc)

taken : (b : Bool) (s : State) (c : ℕ) (fields : List (List ℕ)) (rest : List ℕ) (p : Read) (later : Option Read)
    → is_end (step default_config s c).1 ≡ b
    → (if b then Some (fields, (step default_config s c).0, rest) else later) ≡ Some p
    → (later ≡ Some p → IsNext (step default_config s c).0 rest p)
    → IsNext s (c ∷ rest) p
taken true s c fields rest p later is e more =
    let same : (fields, (step default_config s c).0, rest) ≡ p = cc in
    subst (λ (q : Read). IsNext s (c ∷ rest) q) same (record {
      between = between-step s c is;
      no_longer = omega arith;
      shorter = λ _. omega arith;
    })
taken false s c fields rest p later is e more =
    let h : IsNext (step default_config s c).0 rest p = more e in
    record { between = h.between; no_longer = omega (arith, h.no_longer); shorter = λ _. omega (arith, h.no_longer) }

-- a record that is read
pub next_is : (s : State) (fields : List (List ℕ)) (field xs : List ℕ) (p : Read)
    → next_record default_config s fields field xs ≡ Some p
    → IsNext s xs p
unfolding next_record
next_is s fields field [] p e = at_end (ends_at_end s) s (fields ++ (field ∷ [])) p refl e
next_is s fields field (c ∷ rest) p e =
    taken (is_end (step default_config s c).1) s c
    (fields_after (step default_config s c).1 fields field) rest p
    (next_record default_config (step default_config s c).0 (fields_after (step default_config s c).1 fields field)
    (field_after (step default_config s c).1 c field) rest) refl e
    (λ h.
    next_is (step default_config s c).0 (fields_after (step default_config s c).1 fields field)
    (field_after (step default_config s c).1 c field) rest p h)

abbrev Rows : Type 0
Rows = List (List (List ℕ))

same_next : (o : Option Read) (f g : State → List ℕ → Rows)
    → ((p : Read) → o ≡ Some p → f p.1 p.2 ≡ g p.1 p.2)
    → records_next f o ≡ records_next g o
same_next None f g h = refl
same_next (Some p) f g h = ap (λ (rows : Rows). p.0 ∷ rows) (h p refl)

-- the bytes hold no more records than bytes and one
same_fuel : (n m : ℕ) (s : State) (xs : List ℕ)
    → ends_at_end s ≡ false
    → length xs < n
    → length xs < m
    → records_from default_config n s xs ≡ records_from default_config m s xs
unfolding records_from
same_fuel zero m s xs b h k = absurd (omega arith)
same_fuel (suc n) zero s xs b h k = absurd (omega arith)
same_fuel (suc n) (suc m) s xs b h k =
    same_next (next_record default_config s [] [] xs) (records_from default_config n) (records_from default_config m)
    (λ p e.
    let next : IsNext s xs p = next_is s [] [] xs p e in
    same_fuel n m p.1 p.2 next.between (omega (arith, next.shorter b)) (omega (arith, next.shorter b)))

records-suc : (n : ℕ) (s : State) (xs : List ℕ)
    → records_from default_config (suc n) s xs
    ≡ records_next (records_from default_config n) (next_record default_config s [] [] xs)
unfolding records_from
records-suc n s xs = refl

pub records-next : (s : State) (xs : List ℕ) (p : Read)
    → ends_at_end s ≡ false
    → next_record default_config s [] [] xs ≡ Some p
    → records_from default_config (length xs + 1) s xs ≡ p.0 ∷ records_from default_config (length p.2 + 1) p.1 p.2
records-next s xs p b e =
    let next : IsNext s xs p = next_is s [] [] xs p e in
    let more : length xs + 1 ≡ suc (length xs) = omega arith in
    ap (λ n. records_from default_config n s xs) more ∙ records-suc (length xs) s xs
    ∙ ap (records_next (records_from default_config (length xs))) e
    ∙ ap (λ (rows : Rows). p.0 ∷ rows)
    (same_fuel (length xs) (length p.2 + 1) p.1 p.2 next.between (next.shorter b) (omega arith))

pub records-none : (s : State) (xs : List ℕ)
    → next_record default_config s [] [] xs ≡ None
    → records_from default_config (length xs + 1) s xs ≡ []
records-none s xs e =
    let more : length xs + 1 ≡ suc (length xs) = omega arith in
    ap (λ n. records_from default_config n s xs) more ∙ records-suc (length xs) s xs
    ∙ ap (records_next (records_from default_config (length xs))) e

-- a record that was found
pub record IsFound (state : State) (source pending : Option (List ℕ)) (fields : List (List ℕ)) (after : State) : Type 0 where
  pub all : all_from state source ≡ fields ∷ all_from after pending
  pub between : ends_at_end after ≡ false

found-by : (state : State) (xs ys : List ℕ) (fields : List (List ℕ)) (after : State) (o : Option Read)
    → ends_at_end state ≡ false
    → next_record default_config state [] [] xs ≡ o
    → NextIs o true fields after ys
    → IsFound state (Some xs) (Some ys) fields after
found-by state xs ys fields after None b e h = absurd (false≢true (sym h))
found-by state xs ys fields after (Some p) b e (_, f, s, r) =
    let next : IsNext state xs p = next_is state [] [] xs p e in
    record {
      all = rw (f, s, r) (records-next state xs p b e);
      between = rw s next.between;
    }

pub reads-found : (state : State) (source pending : Option (List ℕ)) (fields : List (List ℕ)) (after : State)
    → ends_at_end state ≡ false
    → is_some source ≡ true
    → ReadsNext default_config state source pending true fields after
    → IsFound state source pending fields after
reads-found state None pending fields after b some h = absurd (false≢true some)
reads-found state (Some xs) None fields after b some h = absurd h
reads-found state (Some xs) (Some ys) fields after b some h =
    found-by state xs ys fields after (next_record default_config state [] [] xs) b refl h

none-by : (state : State) (xs ys : List ℕ) (fields : List (List ℕ)) (after : State) (o : Option Read)
    → next_record default_config state [] [] xs ≡ o
    → NextIs o false fields after ys
    → all_from state (Some xs) ≡ []
none-by state xs ys fields after None e h = records-none state xs e
none-by state xs ys fields after (Some p) e h = absurd (false≢true h.0)

pub reads-none : (state : State) (source pending : Option (List ℕ)) (fields : List (List ℕ)) (after : State)
    → ReadsNext default_config state source pending false fields after
    → all_from state source ≡ []
reads-none state None pending fields after h = refl
reads-none state (Some xs) None fields after h = absurd h
reads-none state (Some xs) (Some ys) fields after h =
    none-by state xs ys fields after (next_record default_config state [] [] xs) refl h

abbrev Source : Type 0
Source = Bor (List ℕ)

abbrev known : Source → Option (List ℕ)
known s = Some s.now

either-known : (b : Bool) (x y : List ℕ) → is_some (if b then Some x else Some y) ≡ true
either-known true x y = refl
either-known false x y = refl

-- the bytes that a reader over a slice has left are known
source-known : (r : Reader Source) → has_failed r ≡ false → is_some (source_of known r) ≡ true
source-known r sound =
    rw sound (either-known (not r.bom_checked && (r.at == 0) && (r.filled == 0)) (strip_bom r.rdr.now) _)

if-checked : (b c : Bool) (x y : Option (List ℕ)) → b ≡ true → (if not b && c && not b then x else y) ≡ y
if-checked true c x y e = refl
if-checked false c x y e = absurd (false≢true e)

-- behind the start of the bytes those that are left are those that are pending
pending-source : (r : Reader Source) → r.bom_checked ≡ true → pending_of (known r.rdr) r ≡ source_of known r
pending-source r checked = rw checked refl

pub read-found : (old new : Reader Source) (found : Bool) (fields : List (List ℕ))
    → has_failed old ≡ false
    → reader_config old ≡ default_config
    → ends_at_end (reader_state old) ≡ false
    → ReadRecord known old new found fields
    → found ≡ true
    → IsFound (reader_state old) (source_of known old) (source_of known new) fields (reader_state new)
read-found old new found fields sound config between read is =
    let next : ReadsNext default_config (reader_state old) (source_of known old) (source_of known new) true fields (reader_state new) =
    rw (← config, ← is, ← pending-source new read.1) read.0 in
    reads-found (reader_state old) (source_of known old) (source_of known new) fields (reader_state new) between
    (source-known old sound) next

pub read-none : (old new : Reader Source) (found : Bool) (fields : List (List ℕ))
    → reader_config old ≡ default_config
    → ReadRecord known old new found fields
    → found ≡ false
    → all_from (reader_state old) (source_of known old) ≡ []
read-none old new found fields config read is =
    let next : ReadsNext default_config (reader_state old) (source_of known old) (source_of known new) false fields (reader_state new) =
    rw (← config, ← is, ← pending-source new read.1) read.0 in
    reads-none (reader_state old) (source_of known old) (source_of known new) fields (reader_state new) next
