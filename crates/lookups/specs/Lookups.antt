-- The record of a kind that has a number; where there is none, a blank one.
use Rattle.std.specs.Prelude.{ℕ, Bool, true, false, pos, Some, None, Option, ◌==◌, slice_index_or}
use Rattle.tables.specs.Stations.{Station}
use Rattle.tables.specs.declared.records.Communicator.{Communicator}
use Rattle.tables.specs.declared.records.Module.{Module}
use Rattle.tables.specs.declared.records.Mode.{Mode}
use Rattle.tables.specs.declared.records.Task.{Task}
use Rattle.tables.specs.declared.records.Read.{Read}
use Rattle.tables.specs.declared.records.Write.{Write}
use Rattle.tables.specs.declared.records.Dependency.{Dependency}
use Rattle.tables.specs.declared.records.Switch.{Switch}
use Rattle.tables.specs.declared.records.Use.TheVariants.{Plain}
use Rattle.tables.specs.declared.records.Form.{Form}
use Rattle.tables.specs.declared.records.Form.TheVariants.{Concrete, Abstract, Unlisted}

abbrev pub communicator_at : Station → ℕ → Communicator
communicator_at s i = slice_index_or s.communicators i (record { period = 0; kind = Plain; initial = pos 0 })

abbrev pub module_at : Station → ℕ → Module
module_at s i = slice_index_or s.modules i (record { owner = None; start = 0 })

abbrev pub mode_at : Station → ℕ → Mode
mode_at s i = slice_index_or s.modes i (record { home = 0; period = 0 })

abbrev pub task_at : Station → ℕ → Task
task_at s i = slice_index_or s.tasks i (record { mode = 0; inputs = 0; outputs = 0; parent = None; form = Concrete })

abbrev pub read_at : Station → ℕ → Read
read_at s i = slice_index_or s.reads i (record { task = 0; input = 0; communicator = 0; offset = 0 })

abbrev pub write_at : Station → ℕ → Write
write_at s i = slice_index_or s.writes i (record { task = 0; output = 0; communicator = 0; offset = 0 })

abbrev pub dependency_at : Station → ℕ → Dependency
dependency_at s i = slice_index_or s.dependencies i (record { task = 0; output = 0; to = 0; input = 0 })

abbrev pub switch_at : Station → ℕ → Switch
switch_at s i = slice_index_or s.switches i (record { mode = 0; condition = 0; target = 0 })

-- An owner or parent is this one.
abbrev pub is_number : Option ℕ → ℕ → Bool
is_number None i = false
is_number (Some j) i = j == i

-- There is no owner or parent.
abbrev pub is_none : Option ℕ → Bool
is_none None = true
is_none (Some j) = false

-- A task is abstract.
abbrev pub is_abstract : Form → Bool
is_abstract Concrete = false
is_abstract Abstract = true
is_abstract (Unlisted b) = false

-- The mode that a task lies in, the module that this mode lies in, and the mode that owns that module.
abbrev pub mode_of : Station → ℕ → ℕ
mode_of s t = (task_at s t).mode

abbrev pub module_of : Station → ℕ → ℕ
module_of s t = (mode_at s (mode_of s t)).home

abbrev pub owner_of : Station → ℕ → Option ℕ
owner_of s t = (module_at s (module_of s t)).owner
