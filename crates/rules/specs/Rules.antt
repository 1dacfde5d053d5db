-- The rules, each a test of one record against the whole tables.
use Rattle.std.specs.Prelude.{ℕ, ◌+◌, ◌%◌, Bool, true, false, not, ◌&&◌, ◌||◌, length, take, count_by, Some, None, Option, ◌==◌, nat_eq, nat_le, nat_lt}
use Rattle.std.specs.List.{list_any, list_all, enumerate_from}
use Rattle.fault.specs.declared.Rule.{Rule}
use Rattle.fault.specs.declared.Rule.TheVariants.{Fields, Hierarchy, Timing, Feeding, Window, Refinement, Writers}
use Rattle.tables.specs.Stations.{Station}
use Rattle.tables.specs.declared.records.Use.{Use}
use Rattle.tables.specs.declared.records.Use.TheVariants.{Plain, Sensor, Actuator, Unlisted}
use Rattle.tables.specs.declared.records.Form.{Form}
use Rattle.tables.specs.declared.records.Form.TheVariants.{Concrete, Abstract, Unlisted as Odd}
use Rattle.tables.specs.declared.records.Place.{Place}
use Rattle.tables.specs.declared.records.Place.TheVariants.{Communicator, Module, Mode, Task, Read, Write, Dependency, Switch}
use Rattle.tables.specs.declared.records.Write as write
use Rattle.levels.specs.Levels.{meets}
use Rattle.lookups.specs.Lookups.{communicator_at, module_at, mode_at, task_at, read_at, write_at, dependency_at, switch_at, is_number, is_none, is_abstract, mode_of, module_of, owner_of}
use Rattle.lookups.specs.Searches.{every}
use Rattle.windows.specs.Windows.{opening, end}

-- ---- Fields: what a field names exists, and what it says lies in its set.

-- None, or a number below the count.
abbrev pub none_or_below : Option ℕ → ℕ → Bool
none_or_below None n = true
none_or_below (Some x) n = nat_lt x n

-- A use is one of the three.
abbrev pub listed_use : Use → Bool
listed_use Plain = true
listed_use Sensor = true
listed_use Actuator = true
listed_use (Unlisted b) = false

-- A form is one of the two.
abbrev pub listed_form : Form → Bool
listed_form Concrete = true
listed_form Abstract = true
listed_form (Odd b) = false

-- Periods are at least 1, a task has at most 4 inputs and 4 outputs, and a port is one that its task has.
abbrev pub fields_fit : Station → Place → Bool
fields_fit s (Communicator i) = nat_le 1 (communicator_at s i).period && listed_use (communicator_at s i).kind
fields_fit s (Module i) = none_or_below (module_at s i).owner (length s.modes) && nat_lt (module_at s i).start (length s.modes)
fields_fit s (Mode i) = nat_lt (mode_at s i).home (length s.modules) && nat_le 1 (mode_at s i).period
fields_fit s (Task i) =
    nat_lt (task_at s i).mode (length s.modes)
    && nat_le (task_at s i).inputs 4
    && nat_le (task_at s i).outputs 4
    && none_or_below (task_at s i).parent (length s.tasks)
    && listed_form (task_at s i).form
fields_fit s (Read i) =
    nat_lt (read_at s i).task (length s.tasks)
    && nat_lt (read_at s i).input (task_at s (read_at s i).task).inputs
    && nat_lt (read_at s i).communicator (length s.communicators)
fields_fit s (Write i) =
    nat_lt (write_at s i).task (length s.tasks)
    && nat_lt (write_at s i).output (task_at s (write_at s i).task).outputs
    && nat_lt (write_at s i).communicator (length s.communicators)
fields_fit s (Dependency i) =
    nat_lt (dependency_at s i).task (length s.tasks)
    && nat_lt (dependency_at s i).output (task_at s (dependency_at s i).task).outputs
    && nat_lt (dependency_at s i).to (length s.tasks)
    && nat_lt (dependency_at s i).input (task_at s (dependency_at s i).to).inputs
fields_fit s (Switch i) = nat_lt (switch_at s i).mode (length s.modes) && nat_lt (switch_at s i).target (length s.modes)

-- ---- Hierarchy: modules, modes and switches form a program of at most eight levels.

-- A module's owner lies in a module of smaller number.
abbrev pub owner_before : Station → ℕ → Option ℕ → Bool
owner_before s i None = true
owner_before s i (Some o) = nat_lt (mode_at s o).home i

-- A module's start mode lies in it, and its level is at most 8; a switch stays in its module.
abbrev pub well_placed : Station → Place → Bool
well_placed s (Communicator i) = true
well_placed s (Module i) = (mode_at s (module_at s i).start).home == i && owner_before s i (module_at s i).owner && meets s i 8 None
well_placed s (Mode i) = true
well_placed s (Task i) = true
well_placed s (Read i) = true
well_placed s (Write i) = true
well_placed s (Dependency i) = true
well_placed s (Switch i) = (mode_at s (switch_at s i).target).home == (mode_at s (switch_at s i).mode).home

-- ---- Timing: periods and offsets fit one another.

-- A number is a multiple of a period.
abbrev pub multiple : ℕ → ℕ → Bool
multiple x p = nat_lt 0 p && x % p == 0

-- A mode of an owned module has the period of the owner.
abbrev pub period_of_owner : Station → ℕ → Option ℕ → Bool
period_of_owner s p None = true
period_of_owner s p (Some o) = p == (mode_at s o).period

-- The period of the mode that a task lies in.
abbrev pub task_period : Station → ℕ → ℕ
task_period s t = (mode_at s (mode_of s t)).period

-- An offset and the period of the task's mode are multiples of the communicator's period.
abbrev pub in_step : Station → ℕ → ℕ → ℕ → Bool
in_step s t c x = multiple x (communicator_at s c).period && multiple (task_period s t) (communicator_at s c).period

-- A use is that of a sensor.
abbrev pub is_sensor : Use → Bool
is_sensor Plain = false
is_sensor Sensor = true
is_sensor Actuator = false
is_sensor (Unlisted b) = false

-- A read comes before the end of the round, a write after its start; no write names a sensor.
abbrev pub well_timed : Station → Place → Bool
well_timed s (Communicator i) = true
well_timed s (Module i) = true
well_timed s (Mode i) = period_of_owner s (mode_at s i).period (module_at s (mode_at s i).home).owner
well_timed s (Task i) = true
well_timed s (Read i) =
    nat_lt (read_at s i).offset (task_period s (read_at s i).task) && in_step s (read_at s i).task (read_at s i).communicator (read_at s i).offset
well_timed s (Write i) =
    nat_le 1 (write_at s i).offset
    && nat_le (write_at s i).offset (task_period s (write_at s i).task)
    && in_step s (write_at s i).task (write_at s i).communicator (write_at s i).offset
    && not (is_sensor (communicator_at s (write_at s i).communicator).kind)
well_timed s (Dependency i) = true
well_timed s (Switch i) = true

-- ---- Feeding: every input has one source.

-- How many reads and dependencies feed an input of a task.
abbrev pub feeds : Station → ℕ → ℕ → ℕ
feeds s t k =
    count_by (λ r. (r.task == t) && r.input == k) s.reads + count_by (λ d. (d.to == t) && d.input == k) s.dependencies

-- A task depends on an abstract one.
abbrev pub depends_on_abstract : Station → ℕ → Bool
depends_on_abstract s t = list_any (λ d. (d.to == t) && is_abstract (task_at s d.task).form) s.dependencies

-- Each input is fed exactly once; a concrete task depends only on concrete ones; a dependency joins tasks of one mode, smaller number first.
abbrev pub well_fed : Station → Place → Bool
well_fed s (Communicator i) = true
well_fed s (Module i) = true
well_fed s (Mode i) = true
well_fed s (Task i) = every (λ k. nat_eq (feeds s i k) 1) (task_at s i).inputs && (is_abstract (task_at s i).form || not (depends_on_abstract s i))
well_fed s (Read i) = true
well_fed s (Write i) = true
well_fed s (Dependency i) =
    (mode_of s (dependency_at s i).task == mode_of s (dependency_at s i).to) && nat_lt (dependency_at s i).task (dependency_at s i).to
well_fed s (Switch i) = true

-- ---- Window: a task opens before it ends.
abbrev pub opens_in_time : Station → Place → Bool
opens_in_time s (Communicator i) = true
opens_in_time s (Module i) = true
opens_in_time s (Mode i) = true
opens_in_time s (Task i) = nat_lt (opening s i) (end s i)
opens_in_time s (Read i) = true
opens_in_time s (Write i) = true
opens_in_time s (Dependency i) = true
opens_in_time s (Switch i) = true

-- ---- Refinement: what refines an abstract task stays within it.

-- A mode owns a module.
abbrev pub owns : Station → ℕ → Bool
owns s d = list_any (λ m. is_number m.owner d) s.modules

-- A mode has an abstract task.
abbrev pub has_abstract : Station → ℕ → Bool
has_abstract s d = list_any (λ t. (t.mode == d) && is_abstract t.form) s.tasks

-- A task writes a communicator.
abbrev pub writes_to : Station → ℕ → ℕ → Bool
writes_to s t c = list_any (λ w. (w.task == t) && w.communicator == c) s.writes

-- A task depends on another.
abbrev pub depends : Station → ℕ → ℕ → Bool
depends s t u = list_any (λ d. (d.to == t) && d.task == u) s.dependencies

-- A task depends on the parent of another.
abbrev pub depends_on_parent : Station → ℕ → Option ℕ → Bool
depends_on_parent s p None = false
depends_on_parent s p (Some q) = depends s p q

-- A task writes only what its parent writes.
abbrev pub writes_within : Station → ℕ → ℕ → Bool
writes_within s t p = list_all (λ w. not (w.task == t) || writes_to s p w.communicator) s.writes

-- Where a task depends on another, its parent depends on the other's parent.
abbrev pub depends_within : Station → ℕ → ℕ → Bool
depends_within s t p = list_all (λ d. not (d.to == t) || depends_on_parent s p (task_at s d.task).parent) s.dependencies

-- Another task has another parent, or lies in another mode of the same module.
abbrev pub apart_one : Station → ℕ → ℕ → ℕ → Bool
apart_one s u t p = not (is_number (task_at s u).parent p) || (not (mode_of s u == mode_of s t) && module_of s u == module_of s t)

-- Earlier tasks with the same parent lie in other modes of the same module.
abbrev pub apart_from_siblings : Station → ℕ → ℕ → Bool
apart_from_siblings s t p = every (λ u. apart_one s u t p) t

-- A task under an owner mode refines an abstract task of that mode: it opens no later, ends no earlier, writes and depends within it.
abbrev pub refines : Station → ℕ → ℕ → Option ℕ → Bool
refines s t o None = false
refines s t o (Some p) =
    is_abstract (task_at s p).form
    && mode_of s p == o
    && nat_le (opening s t) (opening s p)
    && nat_le (end s p) (end s t)
    && writes_within s t p
    && depends_within s t p
    && apart_from_siblings s t p

-- A task in a top module has no parent; any other refines one.
abbrev pub has_its_parent : Station → ℕ → Option ℕ → Bool
has_its_parent s t None = is_none (task_at s t).parent
has_its_parent s t (Some o) = refines s t o (task_at s t).parent

-- A test has the same answer as another.
abbrev pub agree : Bool → Bool → Bool
agree true b = b
agree false b = not b

-- A mode owns a module exactly if it has an abstract task.
abbrev pub well_refined : Station → Place → Bool
well_refined s (Communicator i) = true
well_refined s (Module i) = true
well_refined s (Mode i) = agree (owns s i) (has_abstract s i)
well_refined s (Task i) = has_its_parent s i (owner_of s i)
well_refined s (Read i) = true
well_refined s (Write i) = true
well_refined s (Dependency i) = true
well_refined s (Switch i) = true

-- ---- Writers: no communicator is written from two sides.

-- Two tasks lie directly in different top modules, or in one mode of a top module.
abbrev pub rivals : Station → ℕ → ℕ → Bool
rivals s t u = is_none (owner_of s t) && is_none (owner_of s u) && (not (module_of s t == module_of s u) || mode_of s t == mode_of s u)

-- An earlier rival of a task writes a communicator.
abbrev pub contested : Station → ℕ → ℕ → Bool
contested s t c = list_any (λ w. (w.communicator == c) && nat_lt w.task t && rivals s w.task t) s.writes

-- A task writes a communicator that an earlier rival writes.
abbrev pub clashes : Station → ℕ → Bool
clashes s t = list_any (λ w. (w.task == t) && contested s t w.communicator) s.writes

-- Among the first n writes there is one of the same task to the same communicator at the same offset.
abbrev pub written_before : Station → ℕ → write.Write → Bool
written_before s n w =
    list_any (λ v. (v.task == w.task) && v.communicator == w.communicator && v.offset == w.offset) (take n s.writes)

-- A task writes one communicator twice at one offset.
abbrev pub writes_twice : Station → ℕ → Bool
writes_twice s t = list_any (λ e. (e.1.task == t) && written_before s e.0 e.1) (enumerate_from 0 s.writes)

abbrev pub writes_alone : Station → Place → Bool
writes_alone s (Communicator i) = true
writes_alone s (Module i) = true
writes_alone s (Mode i) = true
writes_alone s (Task i) = not (clashes s i) && not (writes_twice s i)
writes_alone s (Read i) = true
writes_alone s (Write i) = true
writes_alone s (Dependency i) = true
writes_alone s (Switch i) = true

-- A rule holds of a record.
abbrev pub holds : Station → Rule → Place → Bool
holds s Fields p = fields_fit s p
holds s Hierarchy p = well_placed s p
holds s Timing p = well_timed s p
holds s Feeding p = well_fed s p
holds s Window p = opens_in_time s p
holds s Refinement p = well_refined s p
holds s Writers p = writes_alone s p
