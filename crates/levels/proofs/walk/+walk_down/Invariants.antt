use Rattle.std.proofs.Common.{◌≡◌, ◌+◌, ◌-◌, ◌*◌, false, ◌&&◌, eqb, Some}
use Rattle.tables.specs.Stations.{station}
use Rattle.levels.specs.Levels.{same_owner, meets, meets_module}
use Rattle.lookups.specs.Lookups.{module_at, mode_at}
use Rattle.lookups.specs.Searches.{any}
use Rattle.levels.proofs.walk.+walk_down.Given as goal

-- the levels left fall; within a level, from program to module to mode
abbrev pub decreases-mode_meets : goal.decreases-mode_meets
decreases-mode_meets l = 3 * l.levels

abbrev pub decreases-module_meets : goal.decreases-module_meets
decreases-module_meets l = 3 * l.levels + 1

abbrev pub decreases-program_meets : goal.decreases-program_meets
decreases-program_meets l = 3 * l.levels + 2

abbrev pub invariant-module_meets-loop-d : goal.invariant-module_meets-loop-d
invariant-module_meets-loop-d l =
    any (λ d. eqb (mode_at (station l.tables) d).home l.m && meets (station l.tables) l.target (l.levels - 1) (Some d)) l.d ≡ false

abbrev pub invariant-program_meets-loop-m : goal.invariant-program_meets-loop-m
invariant-program_meets-loop-m l =
    any (λ m. same_owner (module_at (station l.tables) m).owner l.owner && meets_module (station l.tables) l.target (l.levels - 1) m) l.m ≡ false
