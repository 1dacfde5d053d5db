-- What is promised of a walk.
use Rattle.std.specs.Prelude.{◌≡◌, ℕ, List, Ok, Err, Result}
use Rattle.fault.specs.declared.Fault.{Fault}
use Rattle.format.specs.Records.{station_bytes}
use Rattle.format.specs.Sound.{PlainFields}
use Rattle.std.specs.List.{AllByRecursion}
use Rattle.tables.specs.Stations.{Station, rows}

-- The bytes that a station was read from are the bytes that would be written for it, and each of its fields is what its byte stands for.
abbrev pub WrittenAgain : List ℕ → Result Station Fault → Type 0
WrittenAgain bs (Ok s) = (station_bytes s ≡ bs) × AllByRecursion PlainFields (rows s)
WrittenAgain bs (Err f) = Unit {0}
