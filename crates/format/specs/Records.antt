-- The bytes of a record: two letters, then its fields in order.
use Rattle.std.specs.Prelude.{ℕ, Bool, cond, List, [], ◌∷◌, ◌++◌, length, Ok, Err, codes, Result, nat_eq, nat_lt}
use Rattle.std.specs.Option.{ok_or}
use Rattle.std.specs.List.{find, flat_map, starts_with}
use Rattle.tables.specs.Stations.{Station, rows}
use Rattle.tables.specs.declared.records.Kind.{Kind}
use Rattle.tables.specs.declared.records.Kind.TheVariants.{Communicators, Modules, Modes, Tasks, Reads, Writes, Dependencies, Switches}
use Rattle.tables.specs.declared.records.Record.{Record}
use Rattle.tables.specs.declared.records.Record.TheVariants.{Communicator, Module, Mode, Task, Read, Write, Dependency, Switch}
use Rattle.format.specs.declared.Flaw.{Flaw}
use Rattle.format.specs.declared.Flaw.TheVariants.{UnknownMark, Cut}
use Rattle.format.specs.Fields.{number_or_none, byte_or_none, use_of, use_byte, form_of, form_byte}
use Rattle.format.specs.Numbers.{byte_at, half_at, word_at, half_bytes, word_bytes}

-- The two letters that stand before a record of a kind.
abbrev pub mark : Kind → List ℕ
mark Communicators = codes "CO"
mark Modules = codes "MU"
mark Modes = codes "MO"
mark Tasks = codes "TA"
mark Reads = codes "RD"
mark Writes = codes "WR"
mark Dependencies = codes "DP"
mark Switches = codes "SW"

-- How many bytes a record of a kind has, its mark included.
abbrev pub size : Kind → ℕ
size Communicators = 9
size Modules = 4
size Modes = 5
size Tasks = 7
size Reads = 7
size Writes = 7
size Dependencies = 6
size Switches = 5

-- The bytes of a record.
abbrev pub record_bytes : Record → List ℕ
record_bytes (Communicator c) = codes "CO" ++ half_bytes c.period ++ use_byte c.kind ∷ word_bytes c.initial
record_bytes (Module m) = codes "MU" ++ byte_or_none m.owner ∷ m.start ∷ []
record_bytes (Mode m) = codes "MO" ++ m.home ∷ half_bytes m.period
record_bytes (Task t) = codes "TA" ++ t.mode ∷ t.inputs ∷ t.outputs ∷ byte_or_none t.parent ∷ form_byte t.form ∷ []
record_bytes (Read r) = codes "RD" ++ r.task ∷ r.input ∷ r.communicator ∷ half_bytes r.offset
record_bytes (Write w) = codes "WR" ++ w.task ∷ w.output ∷ w.communicator ∷ half_bytes w.offset
record_bytes (Dependency d) = codes "DP" ++ d.task ∷ d.output ∷ d.to ∷ d.input ∷ []
record_bytes (Switch s) = codes "SW" ++ s.mode ∷ s.condition ∷ s.target ∷ []

-- The bytes begin with the mark of a kind.
abbrev pub marked : List ℕ → Kind → Bool
marked bs k = starts_with nat_eq bs (mark k)

-- Every kind, in order.
abbrev pub kinds : List Kind
kinds = Communicators ∷ Modules ∷ Modes ∷ Tasks ∷ Reads ∷ Writes ∷ Dependencies ∷ Switches ∷ []

-- The kind whose mark the bytes begin with.
abbrev pub kind_read : List ℕ → Result Kind Flaw
kind_read bs = cond (nat_lt (length bs) 2) (Err Cut) (ok_or (find (marked bs) kinds) UnknownMark)

-- A record of a kind, by the bytes that its mark begins.
abbrev pub fields_read : Kind → List ℕ → Record
fields_read Communicators bs = Communicator (record { period = half_at bs 2; kind = use_of (byte_at bs 4); initial = word_at bs 5 })
fields_read Modules bs = Module (record { owner = number_or_none (byte_at bs 2); start = byte_at bs 3 })
fields_read Modes bs = Mode (record { home = byte_at bs 2; period = half_at bs 3 })
fields_read Tasks bs =
    Task (record { mode = byte_at bs 2; inputs = byte_at bs 3; outputs = byte_at bs 4; parent = number_or_none (byte_at bs 5); form = form_of (byte_at bs 6) })
fields_read Reads bs = Read (record { task = byte_at bs 2; input = byte_at bs 3; communicator = byte_at bs 4; offset = half_at bs 5 })
fields_read Writes bs = Write (record { task = byte_at bs 2; output = byte_at bs 3; communicator = byte_at bs 4; offset = half_at bs 5 })
fields_read Dependencies bs = Dependency (record { task = byte_at bs 2; output = byte_at bs 3; to = byte_at bs 4; input = byte_at bs 5 })
fields_read Switches bs = Switch (record { mode = byte_at bs 2; condition = byte_at bs 3; target = byte_at bs 4 })

-- A record of a kind where its bytes are all there.
abbrev pub whole_read : Result Kind Flaw → List ℕ → Result Record Flaw
whole_read (Err flaw) bs = Err flaw
whole_read (Ok k) bs = cond (nat_lt (length bs) (size k)) (Err Cut) (Ok (fields_read k bs))

-- The record that the bytes begin with, or what is wrong with them.
abbrev pub record_read : List ℕ → Result Record Flaw
record_read bs = whole_read (kind_read bs) bs

-- The bytes of a station: those of its records in their order.
abbrev pub station_bytes : Station → List ℕ
station_bytes s = flat_map record_bytes (rows s)
