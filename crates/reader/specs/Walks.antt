-- The walk over a station's bytes, record by record.
use Rattle.std.specs.Prelude.{ℕ, zero, suc, cond, List, [], ◌∷◌, length, Ok, Err, Result}
use Rattle.fault.specs.declared.Fault.{Fault}
use Rattle.fault.specs.declared.Fault.TheVariants.{TooMany}
use Rattle.tables.specs.Stations.{Station, station, empty, has_room, with_record}
use Rattle.tables.specs.declared.Tables.{Tables}
use Rattle.tables.specs.declared.records.Kind.TheVariants.{Communicators}
use Rattle.tables.specs.declared.records.Record.{Record}
use Rattle.reader.specs.Steps.{Standing, next_record, past}

-- After the next record comes the rest, unless the record is refused or one too many of its kind.
abbrev pub onward : (Standing → Station → Result Station Fault) → Standing → Station → Result Record Fault → Result Station Fault
onward rest at s (Err f) = Err f
onward rest at s (Ok r) = cond (has_room s r) (rest (past at r) (with_record s r)) (Err (TooMany at.number))

-- With no bytes left the station is complete.
abbrev pub unless_over : List ℕ → Station → Result Station Fault → Result Station Fault
unless_over [] s more = Ok s
unless_over (b ∷ bs) s more = more

-- The station that the bytes left complete, or the first refusal; at most k records more.
unfoldable pub walked : ℕ → Standing → Station → Result Station Fault
walked zero at s = Ok s
walked (suc k) at s = unless_over at.left s (onward (walked k) at s (next_record at))

-- Before the first record.
abbrev pub outset : List ℕ → Standing
outset bs = record { left = bs; number = 0; last = Communicators }

-- The station that bytes say, or the refusal of their first record that is refused. There are no more records than bytes.
abbrev pub records : List ℕ → Result Station Fault
records bs = walked (length bs) (outset bs) empty

-- What a walk gives back, the tables as the station that they hold.
abbrev pub outcome : Result Tables Fault → Result Station Fault
outcome (Ok t) = Ok (station t)
outcome (Err f) = Err f
