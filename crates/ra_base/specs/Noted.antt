-- What a note says of a read.
use Rattle.ra_base.specs.Reading.{Reading, reading}
use Rattle.ra_base.specs.declared.read_log.ReadNote.{ReadNote}

-- the read that a note tells
abbrev pub noted : ReadNote → Reading
noted note = reading note.folder.now note.table note.answer.now
