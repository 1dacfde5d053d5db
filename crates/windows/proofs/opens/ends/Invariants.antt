use Rattle.std.proofs.Common.{◌≡◌, ◌-◌, length}
use Rattle.tables.specs.Stations.{station}
use Rattle.windows.specs.Windows.{ends_to}
use Rattle.windows.proofs.opens.ends.Given as goal

abbrev pub invariant-loop-t : goal.invariant-loop-t
invariant-loop-t l = (l.known ≡ ends_to (station l.tables) (length (station l.tables).tasks - l.t)) × (length l.known ≡ 64)
