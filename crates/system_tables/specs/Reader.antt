-- What a reader over a table's bytes has left.
use Rattle.std.specs.Prelude.{◌≡◌, ℕ, ◌+◌, List, [], length, map, false, Option, None, Some, if◌then◌else◌}
use Rattle.csv.specs.Machine.{ends_at_end}
use Rattle.csv.specs.Reading.{default_config, records_from, source_of, has_failed, reader_config, reader_trim, reader_state, Ready}
use Rattle.csv.specs.Records.{fields_of}
use Rattle.csv.specs.declared.parser.State.{State}
use Rattle.csv.specs.declared.reader.Trim.TheVariants as trim
use Rattle.system_tables.specs.Records.{RecordsLeft, without_spaces}
use Rattle.system_tables.specs.declared.records.Records.TheInside.{Inside}

-- all records of the bytes, from a state between two records
abbrev pub all_from : State → Option (List ℕ) → List (List (List ℕ))
all_from state None = []
all_from state (Some bytes) = records_from default_config (length bytes + 1) state bytes

-- what the reader has read last, and what it has left
abbrev pub left_of : Inside → RecordsLeft
left_of r =
    record {
      row = map without_spaces (fields_of r.row);
      rest =
          if r.is_done then []
          else
          map (map without_spaces)
          (all_from (reader_state r.reader) (source_of (λ s. Some s.now) r.reader));
    }

-- the reader stands between two records and reads as it was told
pub record IsOpen (r : Inside) : Type 0 where
  pub sound : has_failed r.reader ≡ false
  pub config : reader_config r.reader ≡ default_config
  pub between : ends_at_end (reader_state r.reader) ≡ false
  pub trim : reader_trim r.reader ≡ trim.None
  pub ready : Ready r.reader

-- the reader is open, unless no record is left
abbrev pub IsReader : Inside → Type 0
IsReader r = r.is_done ≡ false → IsOpen r
