-- The kinds of record, and the kind of each record.
use Rattle.std.specs.Prelude.{ℕ}
use Rattle.tables.specs.declared.records.Kind.{Kind}
use Rattle.tables.specs.declared.records.Kind.TheVariants.{Communicators, Modules, Modes, Tasks, Reads, Writes, Dependencies, Switches}
use Rattle.tables.specs.declared.records.Record.{Record}
use Rattle.tables.specs.declared.records.Record.TheVariants.{Communicator, Module, Mode, Task, Read, Write, Dependency, Switch}

-- The place of a kind in the order of the kinds.
abbrev pub rank : Kind → ℕ
rank Communicators = 0
rank Modules = 1
rank Modes = 2
rank Tasks = 3
rank Reads = 4
rank Writes = 5
rank Dependencies = 6
rank Switches = 7

-- The most records of a kind.
abbrev pub most : Kind → ℕ
most Communicators = 32
most Modules = 32
most Modes = 64
most Tasks = 64
most Reads = 128
most Writes = 128
most Dependencies = 128
most Switches = 128

-- The kind of a record.
abbrev pub kind_of : Record → Kind
kind_of (Communicator c) = Communicators
kind_of (Module m) = Modules
kind_of (Mode m) = Modes
kind_of (Task t) = Tasks
kind_of (Read r) = Reads
kind_of (Write w) = Writes
kind_of (Dependency d) = Dependencies
kind_of (Switch s) = Switches
