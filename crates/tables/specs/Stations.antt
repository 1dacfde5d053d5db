-- A station: the records of each kind, in order.
use Rattle.std.specs.Prelude.{ℕ, ◌≤◌, Bool, cond, List, [], ◌∷◌, ◌++◌, map, length, Ok, Err, Result, nat_lt}
use Rattle.bounded.specs.Items.{items}
use Rattle.fault.specs.declared.Fault.{Fault}
use Rattle.fault.specs.declared.Fault.TheVariants.{TooMany}
use Rattle.tables.specs.declared.Tables.{Tables}
use Rattle.tables.specs.declared.records.Communicator.{Communicator}
use Rattle.tables.specs.declared.records.Module.{Module}
use Rattle.tables.specs.declared.records.Mode.{Mode}
use Rattle.tables.specs.declared.records.Task.{Task}
use Rattle.tables.specs.declared.records.Read.{Read}
use Rattle.tables.specs.declared.records.Write.{Write}
use Rattle.tables.specs.declared.records.Dependency.{Dependency}
use Rattle.tables.specs.declared.records.Switch.{Switch}
use Rattle.tables.specs.declared.records.Kind.{Kind}
use Rattle.tables.specs.declared.records.Kind.TheVariants.{Communicators, Modules, Modes, Tasks, Reads, Writes, Dependencies, Switches}
use Rattle.tables.specs.declared.records.Record.{Record}
use Rattle.tables.specs.declared.records.Record.TheVariants as some
use Rattle.tables.specs.Kinds.{kind_of, most}

pub record Station : Type 0 where
  pub communicators : List Communicator
  pub modules : List Module
  pub modes : List Mode
  pub tasks : List Task
  pub reads : List Read
  pub writes : List Write
  pub dependencies : List Dependency
  pub switches : List Switch

-- The station that a table store holds.
abbrev pub station : Tables → Station
station t =
    record {
      communicators = items t.communicators;
      modules = items t.modules;
      modes = items t.modes;
      tasks = items t.tasks;
      reads = items t.reads;
      writes = items t.writes;
      dependencies = items t.dependencies;
      switches = items t.switches;
    }

-- The station without any record.
abbrev pub empty : Station
empty = record { communicators = []; modules = []; modes = []; tasks = []; reads = []; writes = []; dependencies = []; switches = [] }

-- How many records of a kind there are.
abbrev pub count : Station → Kind → ℕ
count s Communicators = length s.communicators
count s Modules = length s.modules
count s Modes = length s.modes
count s Tasks = length s.tasks
count s Reads = length s.reads
count s Writes = length s.writes
count s Dependencies = length s.dependencies
count s Switches = length s.switches

-- One record more, at the end of the list of its kind.
abbrev pub with_record : Station → Record → Station
with_record s (some.Communicator x) =
    record { communicators = s.communicators ++ x ∷ []; modules = s.modules; modes = s.modes; tasks = s.tasks; reads = s.reads; writes = s.writes; dependencies = s.dependencies; switches = s.switches }
with_record s (some.Module x) =
    record { communicators = s.communicators; modules = s.modules ++ x ∷ []; modes = s.modes; tasks = s.tasks; reads = s.reads; writes = s.writes; dependencies = s.dependencies; switches = s.switches }
with_record s (some.Mode x) =
    record { communicators = s.communicators; modules = s.modules; modes = s.modes ++ x ∷ []; tasks = s.tasks; reads = s.reads; writes = s.writes; dependencies = s.dependencies; switches = s.switches }
with_record s (some.Task x) =
    record { communicators = s.communicators; modules = s.modules; modes = s.modes; tasks = s.tasks ++ x ∷ []; reads = s.reads; writes = s.writes; dependencies = s.dependencies; switches = s.switches }
with_record s (some.Read x) =
    record { communicators = s.communicators; modules = s.modules; modes = s.modes; tasks = s.tasks; reads = s.reads ++ x ∷ []; writes = s.writes; dependencies = s.dependencies; switches = s.switches }
with_record s (some.Write x) =
    record { communicators = s.communicators; modules = s.modules; modes = s.modes; tasks = s.tasks; reads = s.reads; writes = s.writes ++ x ∷ []; dependencies = s.dependencies; switches = s.switches }
with_record s (some.Dependency x) =
    record { communicators = s.communicators; modules = s.modules; modes = s.modes; tasks = s.tasks; reads = s.reads; writes = s.writes; dependencies = s.dependencies ++ x ∷ []; switches = s.switches }
with_record s (some.Switch x) =
    record { communicators = s.communicators; modules = s.modules; modes = s.modes; tasks = s.tasks; reads = s.reads; writes = s.writes; dependencies = s.dependencies; switches = s.switches ++ x ∷ [] }

-- There is room for one record more of its kind.
abbrev pub has_room : Station → Record → Bool
has_room s r = nat_lt (count s (kind_of r)) (most (kind_of r))

-- Whether a store takes the record of a number in, or refuses it as one too many.
abbrev pub taken_in : Station → ℕ → Record → Result (Unit {0}) Fault
taken_in s n r = cond (has_room s r) (Ok tt) (Err (TooMany n))

-- No kind has more records than its most.
abbrev pub Few : Station → Type 0
Few s = (k : Kind) → count s k ≤ most k

-- All records in their order: kind after kind.
abbrev pub rows : Station → List Record
rows s =
    map some.Communicator s.communicators
    ++ (map some.Module s.modules
    ++ (map some.Mode s.modes
    ++ (map some.Task s.tasks
    ++ (map some.Read s.reads
    ++ (map some.Write s.writes
    ++ (map some.Dependency s.dependencies
    ++ map some.Switch s.switches))))))
