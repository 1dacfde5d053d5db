use Rattle.std.proofs.Common.{◌≡◌, ◌+◌, ◌-◌, ◌≤◌, length}
use Rattle.reader.specs.Steps.{standing}
use Rattle.reader.specs.Walks.{records, walked}
use Rattle.tables.specs.Stations.{station}
use Rattle.reader.proofs.walks.walk.Given as goal

-- what is left to walk completes the station, and there are fewer records than bytes passed
abbrev pub invariant-loop-next : goal.invariant-loop-next
invariant-loop-next l =
    (l.cursor.number + length l.cursor.rest.now ≤ length l.bytes)
    × (records l.bytes ≡ walked (length l.bytes - l.cursor.number) (standing l.cursor) (station l.tables))

abbrev pub decreases-loop-next : goal.decreases-loop-next
decreases-loop-next l = length l.cursor.rest.now
