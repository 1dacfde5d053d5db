-- One step of the reader: the record that stands at the head of the bytes left.
use Rattle.std.specs.Prelude.{ℕ, ◌+◌, cond, List, length, drop, Some, None, Ok, Err, Option, Result, ◌==◌, nat_lt}
use Rattle.fault.specs.declared.Fault.{Fault}
use Rattle.fault.specs.declared.Fault.TheVariants.{UnknownMark, CutRecord, OutOfOrder}
use Rattle.format.specs.Records.{record_read, size}
use Rattle.format.specs.declared.Flaw.{Flaw}
use Rattle.format.specs.declared.Flaw.TheVariants as flaw
use Rattle.tables.specs.Kinds.{kind_of, rank}
use Rattle.tables.specs.declared.records.Kind.{Kind}
use Rattle.tables.specs.declared.records.Record.{Record}
use Rattle.reader.specs.declared.Cursor.{Cursor}
use Rattle.reader.specs.declared.Numbered.{Numbered}

-- Where a reader stands: the bytes left, the number of the next record, and the kind of the one before.
pub record Standing : Type 0 where
  pub left : List ℕ
  pub number : ℕ
  pub last : Kind

-- Where a cursor stands.
abbrev pub standing : Cursor → Standing
standing c = record { left = c.rest.now; number = c.number; last = c.last }

-- The refusal of the record of a number for a flaw in its bytes.
abbrev pub flawed : ℕ → Flaw → Fault
flawed n flaw.UnknownMark = UnknownMark n
flawed n flaw.Cut = CutRecord n

-- A record of a kind that should have come before the last one is out of order.
abbrev pub ordered : Standing → Result Record Flaw → Result Record Fault
ordered at (Err f) = Err (flawed at.number f)
ordered at (Ok r) = cond (nat_lt (rank (kind_of r)) (rank at.last)) (Err (OutOfOrder at.number)) (Ok r)

-- The next record, or its refusal.
abbrev pub next_record : Standing → Result Record Fault
next_record at = ordered at (record_read at.left)

-- Where a reader stands after a record.
abbrev pub past : Standing → Record → Standing
past at r = record { left = drop (size (kind_of r)) at.left; number = at.number + 1; last = kind_of r }

-- What a step hands out, and where it leaves the reader: at the end of the bytes and at a refusal, where it stood.
abbrev pub handed : Standing → Result Record Fault → Result (Option Numbered) Fault × Standing
handed at (Err f) = (Err f, at)
handed at (Ok r) = (Ok (Some (record { number = at.number; «record» = r })), past at r)

abbrev pub stepped : Standing → Result (Option Numbered) Fault × Standing
stepped at = cond (length at.left == 0) (Ok None, at) (handed at (next_record at))
