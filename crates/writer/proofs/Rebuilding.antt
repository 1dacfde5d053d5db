-- A station is its records put together again.
use Rattle.std.proofs.Common.{◌≡◌, ℕ, ◌+◌, ◌<◌, ◌≤◌, true, ltb, List, [], ◌∷◌, ◌++◌, map, length, sym, refl, ap, ◌∙◌, subst, arith}
use Rattle.std.proofs.lemmas.List.{append_assoc, append-nil, length_push}
use Rattle.std.proofs.lemmas.Bool.Decides.{nat_tests}
use Rattle.tables.specs.Kinds.{kind_of, rank, most}
use Rattle.tables.specs.Stations.{Station, empty, count, has_room, with_record, rows, Few}
use Rattle.tables.specs.declared.records.Kind.{Kind}
use Rattle.tables.specs.declared.records.Kind.TheVariants.{Communicators, Modules, Modes, Tasks, Reads, Writes, Dependencies, Switches}
use Rattle.tables.specs.declared.records.Record.{Record}
use Rattle.tables.specs.declared.records.Record.TheVariants.{Communicator, Module, Mode, Task, Read, Write, Dependency, Switch}
use Rattle.tables.specs.declared.records.Communicator as communicators-type
use Rattle.tables.specs.declared.records.Module as modules-type
use Rattle.tables.specs.declared.records.Mode as modes-type
use Rattle.tables.specs.declared.records.Task as tasks-type
use Rattle.tables.specs.declared.records.Read as reads_type
use Rattle.tables.specs.declared.records.Write as writes-type
use Rattle.tables.specs.declared.records.Dependency as dependencies-type
use Rattle.tables.specs.declared.records.Switch as switches-type

-- records added one after another come to a station: none is of an earlier kind than the one before, and each finds room
abbrev pub ComesTo : Kind → Station → List Record → Station → Type 0
ComesTo l s [] whole = s ≡ whole
ComesTo l s (r ∷ rs) whole = (rank l ≤ rank (kind_of r)) × (has_room s r ≡ true) × ComesTo (kind_of r) (with_record s r) rs whole

comes_lower : (l k : Kind) (s : Station) (rs : List Record) (whole : Station) → rank l ≤ rank k → ComesTo k s rs whole → ComesTo l s rs whole
comes_lower l k s [] whole h e = e
comes_lower l k s (r ∷ rs) whole h e = (omega (arith, e.0), e.1, e.2)

below : (m n : ℕ) → m < n → ltb m n ≡ true
below m n h = grind (arith, nat_tests)

-- the records of one kind, and the stations that they come to one by one
pub record Part (X : Type 0) : Type 0 where
  pub kind : Kind
  pub made : X → Record
  pub at : List X → Station
  pub made_kind : (x : X) → kind_of (made x) ≡ kind
  pub adds : (xs : List X) (x : X) → with_record (at xs) (made x) ≡ at (xs ++ x ∷ [])
  pub counts : (xs : List X) → count (at xs) kind ≡ length xs

-- the records of one kind and then others
part :
    {X : Type 0} (p : Part X) (l : Kind) (before xs : List X) (rs : List Record) (whole : Station)
    → rank l ≤ rank p.kind → length before + length xs ≤ most p.kind → ComesTo p.kind (p.at (before ++ xs)) rs whole
    → ComesTo l (p.at before) (map p.made xs ++ rs) whole
part p l before [] rs whole h few more =
    comes_lower l p.kind (p.at before) rs whole h (subst (λ b. ComesTo p.kind (p.at b) rs whole) (append-nil before) more)
part p l before (x ∷ xs) rs whole h few more =
    let room : has_room (p.at before) (p.made x) ≡ true =
    ap (λ k. ltb (count (p.at before) k) (most k)) (p.made_kind x) ∙ ap (λ n. ltb n (most p.kind)) (p.counts before) ∙ below (length before) (most p.kind) (omega arith) in
    let next = before ++ x ∷ [] in
    let rest = part p p.kind next xs rs whole (omega arith) (omega (arith, length_push before x)) (subst (λ b. ComesTo p.kind (p.at b) rs whole) (sym (append_assoc before (x ∷ []) xs)) more) in (
      omega (arith, ap rank (p.made_kind x)),
      room,
      subst (λ k. ComesTo k (with_record (p.at before) (p.made x)) (map p.made xs ++ rs) whole) (sym (p.made_kind x))
          (subst (λ s. ComesTo p.kind s (map p.made xs ++ rs) whole) (sym (p.adds before x)) rest),
    )

abbrev of_lists :
    List communicators-type.Communicator → List modules-type.Module → List modes-type.Mode → List tasks-type.Task
    → List reads_type.Read → List writes-type.Write → List dependencies-type.Dependency → List switches-type.Switch → Station
of_lists c m o t r w d x = record { communicators = c; modules = m; modes = o; tasks = t; reads = r; writes = w; dependencies = d; switches = x }

-- a station's records, added one after another, come to the station
pub rows_come : (s : Station) → Few s → ComesTo Communicators empty (rows s) s
rows_come s few =
    let communicators : Part communicators-type.Communicator = record { kind = Communicators; made = Communicator; at = λ l. of_lists l [] [] [] [] [] [] []; made_kind = λ x. refl; adds = λ l x. refl; counts = λ l. refl } in
    let modules : Part modules-type.Module = record { kind = Modules; made = Module; at = λ l. of_lists s.communicators l [] [] [] [] [] []; made_kind = λ x. refl; adds = λ l x. refl; counts = λ l. refl } in
    let modes : Part modes-type.Mode = record { kind = Modes; made = Mode; at = λ l. of_lists s.communicators s.modules l [] [] [] [] []; made_kind = λ x. refl; adds = λ l x. refl; counts = λ l. refl } in
    let tasks : Part tasks-type.Task = record { kind = Tasks; made = Task; at = λ l. of_lists s.communicators s.modules s.modes l [] [] [] []; made_kind = λ x. refl; adds = λ l x. refl; counts = λ l. refl } in
    let reads : Part reads_type.Read = record { kind = Reads; made = Read; at = λ l. of_lists s.communicators s.modules s.modes s.tasks l [] [] []; made_kind = λ x. refl; adds = λ l x. refl; counts = λ l. refl } in
    let writes : Part writes-type.Write = record { kind = Writes; made = Write; at = λ l. of_lists s.communicators s.modules s.modes s.tasks s.reads l [] []; made_kind = λ x. refl; adds = λ l x. refl; counts = λ l. refl } in
    let dependencies : Part dependencies-type.Dependency = record { kind = Dependencies; made = Dependency; at = λ l. of_lists s.communicators s.modules s.modes s.tasks s.reads s.writes l []; made_kind = λ x. refl; adds = λ l x. refl; counts = λ l. refl } in
    let switches : Part switches-type.Switch = record { kind = Switches; made = Switch; at = λ l. of_lists s.communicators s.modules s.modes s.tasks s.reads s.writes s.dependencies l; made_kind = λ x. refl; adds = λ l x. refl; counts = λ l. refl } in
    let last : map Switch s.switches ++ [] ≡ map Switch s.switches = append-nil (map Switch s.switches) in
    part communicators Communicators [] s.communicators _ s (omega arith) (omega (arith, few Communicators))
    (part modules Communicators [] s.modules _ s (omega arith) (omega (arith, few Modules))
    (part modes Modules [] s.modes _ s (omega arith) (omega (arith, few Modes))
    (part tasks Modes [] s.tasks _ s (omega arith) (omega (arith, few Tasks))
    (part reads Tasks [] s.reads _ s (omega arith) (omega (arith, few Reads))
    (part writes Reads [] s.writes _ s (omega arith) (omega (arith, few Writes))
    (part dependencies Writes [] s.dependencies _ s (omega arith) (omega (arith, few Dependencies))
    (subst (λ rs. ComesTo Dependencies (switches.at []) rs s) last (part switches Dependencies [] s.switches [] s (omega arith) (omega (arith, few Switches)) refl))))))))
