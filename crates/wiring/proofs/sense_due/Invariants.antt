use Rattle.std.proofs.Common.{◌≡◌, []}
use Rattle.wiring.specs.Due.{sensed}
use Rattle.wiring.proofs.sense_due.Given as goal

abbrev pub invariant-loop-i : goal.invariant-loop-i
invariant-loop-i g l = l.values ≡ sensed (g.P.Plant.means l.plant []).sense l.communicators l.clock l.initial.values l.i
