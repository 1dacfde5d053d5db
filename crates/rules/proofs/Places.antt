-- Each record has one number over all kinds.
use Rattle.std.proofs.Common.{◌≡◌, ℕ, ◌+◌, ◌<◌, true, length, subst, arith}
use Rattle.fault.specs.declared.Rule.{Rule}
use Rattle.std.proofs.lemmas.Bool.Decides.{nat_tests}
use Rattle.tables.proofs.Numbering.{length_rows}
use Rattle.tables.specs.Places.{place}
use Rattle.tables.specs.Stations.{Station}
use Rattle.tables.specs.declared.records.Place.{Place}
use Rattle.tables.specs.declared.records.Place.TheVariants.{Communicator, Module, Mode, Task, Read, Write, Dependency, Switch}
use Rattle.rules.specs.Rules.{holds}
use Rattle.rules.specs.Verdicts.{record_count, Keeps}

-- the record exists
abbrev pub Stands : Station → Place → Type 0
Stands s (Communicator i) = i < length s.communicators
Stands s (Module i) = i < length s.modules
Stands s (Mode i) = i < length s.modes
Stands s (Task i) = i < length s.tasks
Stands s (Read i) = i < length s.reads
Stands s (Write i) = i < length s.writes
Stands s (Dependency i) = i < length s.dependencies
Stands s (Switch i) = i < length s.switches

-- its number over all kinds
abbrev pub number_of : Station → Place → ℕ
number_of s (Communicator i) = i
number_of s (Module i) = length s.communicators + i
number_of s (Mode i) = length s.communicators + length s.modules + i
number_of s (Task i) = length s.communicators + length s.modules + length s.modes + i
number_of s (Read i) = length s.communicators + length s.modules + length s.modes + length s.tasks + i
number_of s (Write i) = length s.communicators + length s.modules + length s.modes + length s.tasks + length s.reads + i
number_of s (Dependency i) =
    length s.communicators + length s.modules + length s.modes + length s.tasks + length s.reads + length s.writes + i
number_of s (Switch i) =
    length s.communicators + length s.modules + length s.modes + length s.tasks + length s.reads + length s.writes + length s.dependencies + i

pub number_below : (s : Station) (p : Place) → Stands s p → number_of s p < record_count s
number_below s (Communicator i) h = omega (arith, length_rows s)
number_below s (Module i) h = omega (arith, length_rows s)
number_below s (Mode i) h = omega (arith, length_rows s)
number_below s (Task i) h = omega (arith, length_rows s)
number_below s (Read i) h = omega (arith, length_rows s)
number_below s (Write i) h = omega (arith, length_rows s)
number_below s (Dependency i) h = omega (arith, length_rows s)
number_below s (Switch i) h = omega (arith, length_rows s)

pub place_number : (s : Station) (p : Place) → Stands s p → place s (number_of s p) ≡ p
place_number s (Communicator i) h = grind (arith, nat_tests)
place_number s (Module i) h = grind (arith, nat_tests)
place_number s (Mode i) h = grind (arith, nat_tests)
place_number s (Task i) h = grind (arith, nat_tests)
place_number s (Read i) h = grind (arith, nat_tests)
place_number s (Write i) h = grind (arith, nat_tests)
place_number s (Dependency i) h = grind (arith, nat_tests)
place_number s (Switch i) h = grind (arith, nat_tests)

-- a rule at a record by its kind
pub kept_at : (s : Station) → Keeps s → (r : Rule) (p : Place) → Stands s p → holds s r p ≡ true
kept_at s k r p h = subst (λ x. holds s r x ≡ true) (place_number s p h) (k r (number_of s p) (number_below s p h))
