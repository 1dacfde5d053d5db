use Rattle.std.proofs.Common.{◌≡◌, List, ◌++◌}
use Rattle.plant.specs.Acts.{Act}
use Rattle.wiring.specs.Due.{drives}
use Rattle.wiring.proofs.drive_due.Given as goal

abbrev pub invariant-loop-i : goal.invariant-loop-i
invariant-loop-i g l =
    (acts : List Act) → g.P.Plant.means l.plant acts ≡ g.P.Plant.means l.initial.plant (drives l.communicators l.clock l.values l.i ++ acts)
