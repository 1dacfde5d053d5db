-- Which bytes are accepted, and as what.
use Rattle.std.specs.Prelude.{ℕ, List, Ok, Err, Result}
use Rattle.fault.specs.declared.Fault.{Fault}
use Rattle.rules.specs.Verdicts.{verdict, ◌then◌}
use Rattle.tables.specs.Stations.{Station, station}
use Rattle.reader.specs.Walks.{records}
use Rattle.reader.specs.declared.Accepted.{Accepted}

-- The station that bytes say, if every record is well formed and every rule is kept; else the first refusal.
abbrev pub judged : List ℕ → Result Station Fault
judged bs = records bs then λ s. verdict s then λ _. Ok s

-- What reading gives back, the tables as the station that they hold.
abbrev pub verdict_on : Result Accepted Fault → Result Station Fault
verdict_on (Ok a) = Ok (station a.tables)
verdict_on (Err f) = Err f
