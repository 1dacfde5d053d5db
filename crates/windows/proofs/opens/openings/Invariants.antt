use Rattle.std.proofs.Common.{◌≡◌, length}
use Rattle.tables.specs.Stations.{station}
use Rattle.windows.specs.Windows.{openings_to}
use Rattle.windows.proofs.opens.openings.Given as goal

abbrev pub invariant-loop-t : goal.invariant-loop-t
invariant-loop-t l = (l.known ≡ openings_to (station l.tables) l.t) × (length l.known ≡ 64)
