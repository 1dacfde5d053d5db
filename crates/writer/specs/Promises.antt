-- What is promised of written bytes.
use Rattle.std.specs.Prelude.{◌≡◌, ℕ, List, Ok}
use Rattle.format.specs.Sound.{PlainFields}
use Rattle.reader.specs.Walks.{records}
use Rattle.std.specs.List.{AllByRecursion}
use Rattle.tables.specs.Stations.{Station, rows}

-- The bytes are read as the station, if each of its fields is what its byte stands for.
abbrev pub ReadAgain : Station → List ℕ → Type 0
ReadAgain s bs = AllByRecursion PlainFields (rows s) → records bs ≡ Ok s
