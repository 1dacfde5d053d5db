-- A table store has at most so many records of each kind.
use Rattle.std.proofs.Common.{arith}
use Rattle.std.proofs.lemmas.List.{length-take}
use Rattle.tables.specs.Stations.{Few, station}
use Rattle.tables.specs.declared.Tables.{Tables}
use Rattle.tables.specs.declared.records.Kind.TheVariants.{Communicators, Modules, Modes, Tasks, Reads, Writes, Dependencies, Switches}

pub store_few : (t : Tables) → Few (station t)
store_few t Communicators = omega (arith, length-take t.communicators.len t.communicators.slots, t.communicators.few)
store_few t Modules = omega (arith, length-take t.modules.len t.modules.slots, t.modules.few)
store_few t Modes = omega (arith, length-take t.modes.len t.modes.slots, t.modes.few)
store_few t Tasks = omega (arith, length-take t.tasks.len t.tasks.slots, t.tasks.few)
store_few t Reads = omega (arith, length-take t.reads.len t.reads.slots, t.reads.few)
store_few t Writes = omega (arith, length-take t.writes.len t.writes.slots, t.writes.few)
store_few t Dependencies = omega (arith, length-take t.dependencies.len t.dependencies.slots, t.dependencies.few)
store_few t Switches = omega (arith, length-take t.switches.len t.switches.slots, t.switches.few)
