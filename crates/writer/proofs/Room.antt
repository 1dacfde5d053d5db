-- There is room for the bytes of every station.
use Rattle.std.proofs.Common.{◌≡◌, ℕ, ◌+◌, ◌*◌, ◌≤◌, List, [], ◌∷◌, ◌++◌, map, length, sym, refl, ap, ◌∙◌, mul-suc, arith}
use Rattle.format.specs.Records.{record_bytes, station_bytes}
use Rattle.std.proofs.lemmas.List.{append-nil, length-append}
use Rattle.std.specs.List.{flat_map}
use Rattle.tables.specs.Stations.{Station, Few}
use Rattle.tables.specs.declared.records.Kind.TheVariants.{Communicators, Modules, Modes, Tasks, Reads, Writes, Dependencies, Switches}
use Rattle.tables.specs.declared.records.Record.{Record}
use Rattle.tables.specs.declared.records.Record.TheVariants.{Communicator, Module, Mode, Task, Read, Write, Dependency, Switch}

-- records of one size and then others
pub part_length :
    {X : Type 0} (made : X → Record) (n : ℕ) → ((x : X) → length (record_bytes (made x)) ≡ n) → (xs : List X) (rs : List Record) {k : ℕ}
    → length (flat_map record_bytes rs) ≡ k → length (flat_map record_bytes (map made xs ++ rs)) ≡ n * length xs + k
part_length made n size [] rs e = omega arith
part_length made n size (x ∷ xs) rs e =
    omega (arith, length-append (record_bytes (made x)) (flat_map record_bytes (map made xs ++ rs)), size x, part_length made n size xs rs e, mul-suc n (length xs))

-- a station has at most so many bytes
pub station_length : (s : Station) → Few s → length (station_bytes s) ≤ 4384
station_length s few =
    let last = ap (λ l. length (flat_map record_bytes l)) (sym (append-nil (map Switch s.switches))) in
    let whole =
    part_length Communicator 9 (λ x. refl) s.communicators _
    (part_length Module 4 (λ x. refl) s.modules _
    (part_length Mode 5 (λ x. refl) s.modes _
    (part_length Task 7 (λ x. refl) s.tasks _
    (part_length Read 7 (λ x. refl) s.reads _
    (part_length Write 7 (λ x. refl) s.writes _
    (part_length Dependency 6 (λ x. refl) s.dependencies _
    (last ∙ part_length Switch 5 (λ x. refl) s.switches [] refl))))))) in
    omega (arith, few Communicators, few Modules, few Modes, few Tasks, few Reads, few Writes, few Dependencies, few Switches)
