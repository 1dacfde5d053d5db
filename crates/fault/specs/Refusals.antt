-- Every refusal: the part that gives it, its number, and the value that comes with it.
use Rattle.std.specs.Prelude.{ℕ, Some, None}
use Rattle.fault.specs.declared.Part.TheVariants.{Reader, Generator, Loader, Machine}
use Rattle.fault.specs.declared.Rule.{Rule}
use Rattle.fault.specs.declared.Rule.TheVariants.{Fields, Hierarchy, Timing, Feeding, Window, Refinement, Writers}
use Rattle.fault.specs.declared.Fault.{Fault}
use Rattle.fault.specs.declared.Fault.TheVariants.{UnknownMark, CutRecord, OutOfOrder, TooMany, Broken, NoImage, BadCode, Unloadable, ShortBuffer, ClockAtEnd, Overdue, Stopped, NotOut, Trap, NothingThere}
use Rattle.fault.specs.declared.Refusal.{Refusal}

-- The number of each rule of the tables.
abbrev pub number : Rule → ℕ
number Fields = 3
number Hierarchy = 4
number Timing = 5
number Feeding = 6
number Window = 7
number Refinement = 8
number Writers = 9

-- What is told of each refusal.
abbrev pub told : Fault → Refusal
told (UnknownMark r) = record { part = Reader; number = 1; value = Some r }
told (CutRecord r) = record { part = Reader; number = 1; value = Some r }
told (OutOfOrder r) = record { part = Reader; number = 1; value = Some r }
told (TooMany r) = record { part = Reader; number = 2; value = Some r }
told (Broken rule r) = record { part = Reader; number = number rule; value = Some r }
told (NoImage p) = record { part = Loader; number = 10; value = Some p }
told (BadCode p) = record { part = Loader; number = 11; value = Some p }
told (Unloadable p) = record { part = Loader; number = 11; value = Some p }
told (ShortBuffer n) = record { part = Generator; number = 12; value = Some n }
told ClockAtEnd = record { part = Machine; number = 13; value = None }
told (Overdue t) = record { part = Machine; number = 14; value = Some t }
told Stopped = record { part = Machine; number = 15; value = None }
told NotOut = record { part = Machine; number = 16; value = None }
told (Trap why a) = record { part = Machine; number = 17; value = Some a }
told NothingThere = record { part = Machine; number = 18; value = None }
