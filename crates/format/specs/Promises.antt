-- What is promised of the bytes of a record.
use Rattle.std.specs.Prelude.{◌≡◌, ℕ, List, ◌++◌, take, Ok, Err, Result}
use Rattle.tables.specs.Kinds.{kind_of}
use Rattle.tables.specs.declared.records.Record.{Record}
use Rattle.format.specs.declared.Flaw.{Flaw}
use Rattle.format.specs.Records.{record_bytes, record_read, size}
use Rattle.format.specs.Sound.{FitsWidths, PlainFields}

-- The bytes of a record, whatever follows them, are read as that record.
abbrev pub ReadAgain : Record → Type 0
ReadAgain r = (rest : List ℕ) → PlainFields r → record_read (record_bytes r ++ rest) ≡ Ok r

-- The bytes that a record was read from are the bytes that would be written for it, and nothing in it is beyond them.
abbrev pub WrittenAgain : List ℕ → Result Record Flaw → Type 0
WrittenAgain bs (Ok r) = (record_bytes r ≡ take (size (kind_of r)) bs) × FitsWidths r × PlainFields r
WrittenAgain bs (Err flaw) = Unit {0}
