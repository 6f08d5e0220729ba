use Rattle.std.proofs.Common.{◌≡◌, Bool, true, false, not, Some, List, [], ◌∷◌, ℕ, refl, sym, ap, ◌∙◌, inl, map, if◌then◌else◌}
use Rattle.std.proofs.lemmas.Bool.{false≢true}
use Rattle.csv.specs.Records.{fields_of}
use Rattle.csv.specs.Reading.{ReadRecord, reader_state, source_of}
use Rattle.system_tables.specs.Records.{RecordsLeft, without_spaces}
use Rattle.system_tables.specs.Reader.{IsOpen}
use Rattle.system_tables.proofs.RecordLaws.{IsFound, read-found, read-none}
use Rattle.system_tables.proofs.records.Records.next.Goals as goal

abbrev Rows : Type 0
Rows = List (List (List ℕ))

rest-open : (b : Bool) (rows : Rows) → b ≡ false → (if b then [] else rows) ≡ rows
rest-open true rows e = absurd (false≢true (sym e))
rest-open false rows e = refl

found-of : (b : Bool) → not b ≡ false → b ≡ true
found-of true e = refl
found-of false e = absurd (false≢true (sym e))

pub invariant_of-self : goal.invariant_of-self
invariant_of-self c = λ e. absurd (false≢true (sym e))

pub invariant_of-self-2 : goal.invariant_of-self-2
invariant_of-self-2 c = λ open_after.
    let now : IsOpen c.self.inside = c.self.invariant c.if-self.false in
    let read : ReadRecord (λ s. Some s.now) c.self.inside.reader c.read_byte_record.new.self c.in-Ok.found
    (fields_of c.read_byte_record.new.row) = c.in-Ok.ensures.reads now.trim now.ready in
    let found : c.in-Ok.found ≡ true = found-of c.in-Ok.found open_after in
    let is : IsFound (reader_state c.self.inside.reader) (source_of (λ s. Some s.now) c.self.inside.reader)
    (source_of (λ s. Some s.now) c.read_byte_record.new.self) (fields_of c.read_byte_record.new.row)
    (reader_state c.read_byte_record.new.self) =
    read-found c.self.inside.reader c.read_byte_record.new.self c.in-Ok.found (fields_of c.read_byte_record.new.row)
    now.sound now.config now.between read found in
    record {
      sound = c.in-Ok.ensures.goes ∙ now.sound;
      config = read.2 ∙ now.config;
      between = is.between;
      trim = read.3 ∙ now.trim;
      ready = inl (c.in-Ok.ensures.ready now.trim);
    }

pub returns-clause-found : goal.returns-clause-found
returns-clause-found c = λ e.
    let now : IsOpen c.self.inside = c.self.invariant c.if-self.false in
    let read : ReadRecord (λ s. Some s.now) c.self.inside.reader c.read_byte_record.new.self c.in-Ok.found
    (fields_of c.read_byte_record.new.row) = c.in-Ok.ensures.reads now.trim now.ready in
    let found : c.in-Ok.found ≡ true = cc in
    let is : IsFound (reader_state c.self.inside.reader) (source_of (λ s. Some s.now) c.self.inside.reader)
    (source_of (λ s. Some s.now) c.read_byte_record.new.self) (fields_of c.read_byte_record.new.row)
    (reader_state c.read_byte_record.new.self) =
    read-found c.self.inside.reader c.read_byte_record.new.self c.in-Ok.found (fields_of c.read_byte_record.new.row)
    now.sound now.config now.between read found in
    ap (λ (r : RecordsLeft). r.rest) (sym c.self.view_is)
    ∙ rest-open c.self.inside.is_done _ c.if-self.false
    ∙ ap (map (map without_spaces)) is.all
    ∙ ap (λ (rows : Rows). map without_spaces (fields_of c.read_byte_record.new.row) ∷ rows)
    (sym (rest-open (not c.in-Ok.found) _ (ap not found)))

pub returns-clause-none : goal.returns-clause-none
returns-clause-none c = λ e.
    let now : IsOpen c.self.inside = c.self.invariant c.if-self.false in
    let read : ReadRecord (λ s. Some s.now) c.self.inside.reader c.read_byte_record.new.self c.in-Ok.found
    (fields_of c.read_byte_record.new.row) = c.in-Ok.ensures.reads now.trim now.ready in
    let none : c.in-Ok.found ≡ false = cc in
    ap (λ (r : RecordsLeft). r.rest) (sym c.self.view_is)
    ∙ rest-open c.self.inside.is_done _ c.if-self.false
    ∙ ap (map (map without_spaces))
    (read-none c.self.inside.reader c.read_byte_record.new.self c.in-Ok.found
    (fields_of c.read_byte_record.new.row) now.config read none)
