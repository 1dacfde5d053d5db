-- Which records the bytes can express.
use Rattle.std.specs.Prelude.{◌≡◌, ◌<◌, FitsSigned}
use Rattle.std.specs.Int.{w32}
use Rattle.tables.specs.declared.records.Record.{Record}
use Rattle.tables.specs.declared.records.Record.TheVariants.{Communicator, Module, Mode, Task, Read, Write, Dependency, Switch}
use Rattle.format.specs.Fields.{number_or_none, byte_or_none, use_of, use_byte, form_of, form_byte}

-- Every number of more than one byte fits the width of its field.
abbrev pub FitsWidths : Record → Type 0
FitsWidths (Communicator c) = (c.period < 65536) × FitsSigned w32 c.initial
FitsWidths (Module m) = Unit {0}
FitsWidths (Mode m) = m.period < 65536
FitsWidths (Task t) = Unit {0}
FitsWidths (Read r) = r.offset < 65536
FitsWidths (Write w) = w.offset < 65536
FitsWidths (Dependency d) = Unit {0}
FitsWidths (Switch s) = Unit {0}

-- Every field that is no plain number is what its byte stands for: no owner or parent has the number 255, and what is unlisted is none of those listed.
abbrev pub PlainFields : Record → Type 0
PlainFields (Communicator c) = use_of (use_byte c.kind) ≡ c.kind
PlainFields (Module m) = number_or_none (byte_or_none m.owner) ≡ m.owner
PlainFields (Mode m) = Unit {0}
PlainFields (Task t) = (number_or_none (byte_or_none t.parent) ≡ t.parent) × (form_of (form_byte t.form) ≡ t.form)
PlainFields (Read r) = Unit {0}
PlainFields (Write w) = Unit {0}
PlainFields (Dependency d) = Unit {0}
PlainFields (Switch s) = Unit {0}
