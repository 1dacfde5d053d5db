-- Where a record stands: its kind and its number within the kind.
use Rattle.std.specs.Prelude.{ℕ, ◌-◌, cond, length, Option, nat_lt}
use Rattle.std.specs.List.{slice_get}
use Rattle.std.specs.Option.{option_map}
use Rattle.tables.specs.declared.records.Place.{Place}
use Rattle.tables.specs.declared.records.Place.TheVariants.{Communicator, Module, Mode, Task, Read, Write, Dependency, Switch}
use Rattle.tables.specs.declared.records.Record.{Record}
use Rattle.tables.specs.declared.records.Record.TheVariants as some
use Rattle.tables.specs.Stations.{Station}

-- Among the first n, or counted on from there.
abbrev pub split : ℕ → (ℕ → Place) → (ℕ → Place) → ℕ → Place
split n here later k = cond (nat_lt k n) (here k) (later (k - n))

-- The place of the record that has a number over all kinds.
abbrev pub place : Station → ℕ → Place
place s =
    split (length s.communicators) Communicator
    (split (length s.modules) Module
    (split (length s.modes) Mode
    (split (length s.tasks) Task
    (split (length s.reads) Read
    (split (length s.writes) Write
    (split (length s.dependencies) Dependency
    Switch))))))

-- The record at a place, if there is one.
abbrev pub record_at : Station → Place → Option Record
record_at s (Communicator i) = option_map some.Communicator (slice_get s.communicators i)
record_at s (Module i) = option_map some.Module (slice_get s.modules i)
record_at s (Mode i) = option_map some.Mode (slice_get s.modes i)
record_at s (Task i) = option_map some.Task (slice_get s.tasks i)
record_at s (Read i) = option_map some.Read (slice_get s.reads i)
record_at s (Write i) = option_map some.Write (slice_get s.writes i)
record_at s (Dependency i) = option_map some.Dependency (slice_get s.dependencies i)
record_at s (Switch i) = option_map some.Switch (slice_get s.switches i)
