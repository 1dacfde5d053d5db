-- Records that come in the order of their kinds stand in that order.
use Rattle.std.proofs.Common.{◌≡◌, ◌<◌, ◌≤◌, List, [], ◌∷◌, ◌++◌, map, length, sym, ap, ◌∙◌, arith}
use Rattle.std.proofs.lemmas.List.{append_assoc, append-nil, map_push, nil_from_length}
use Rattle.tables.specs.declared.records.Kind.{Kind}
use Rattle.tables.specs.declared.records.Kind.TheVariants.{Modules, Modes, Tasks, Reads, Writes, Dependencies, Switches}
use Rattle.tables.specs.declared.records.Record.{Record}
use Rattle.tables.specs.declared.records.Record.TheVariants.{Communicator, Module, Mode, Task, Read, Write, Dependency, Switch}
use Rattle.tables.specs.Kinds.{kind_of, rank}
use Rattle.tables.specs.Stations.{Station, empty, count, with_record, rows}

-- no record yet of a kind that comes after this one
abbrev pub UpTo : Kind → Station → Type 0
UpTo l s = (k : Kind) → rank l < rank k → count s k ≡ 0

pub up_to_empty : (l : Kind) → UpTo l empty
up_to_empty l k h = grind arith

-- a record leaves the counts of other kinds as they are
pub count_other : (s : Station) (r : Record) (k : Kind) → rank (kind_of r) < rank k → count (with_record s r) k ≡ count s k
count_other s r k h = grind arith

-- still none of a later kind after a record in order
pub up_to_with : (l : Kind) (s : Station) (r : Record) → UpTo l s → rank l ≤ rank (kind_of r) → UpTo (kind_of r) (with_record s r)
up_to_with l s r none h k later = count_other s r k later ∙ none k (omega arith)

-- lists without items
pub none_mapped : {X : Type 0} (f : X → Record) (xs : List X) (ys : List Record) → length xs ≡ 0 → ys ≡ [] → map f xs ++ ys ≡ []
none_mapped f xs ys h e = ap (λ l. map f l ++ ys) (nil_from_length xs h) ∙ e

last_none : {X : Type 0} (f : X → Record) (xs : List X) → length xs ≡ 0 → map f xs ≡ []
last_none f xs h = ap (map f) (nil_from_length xs h)

-- one more at the end of what is followed by nothing
pub push_last : {X : Type 0} (f : X → Record) (xs : List X) (x : X) (ys : List Record) → ys ≡ [] → map f (xs ++ x ∷ []) ++ ys ≡ (map f xs ++ ys) ++ f x ∷ []
push_last f xs x ys e =
    ap (λ l. l ++ ys) (map_push f xs x)
    ∙ ap (λ l. (map f xs ++ f x ∷ []) ++ l) e
    ∙ append-nil (map f xs ++ f x ∷ [])
    ∙ sym (ap (λ l. l ++ f x ∷ []) (ap (λ l. map f xs ++ l) e ∙ append-nil (map f xs)))

-- the same behind others
pub push_behind : (front : List Record) (before after : List Record) (r : Record) → after ≡ before ++ r ∷ [] → front ++ after ≡ (front ++ before) ++ r ∷ []
push_behind front before after r e = ap (λ l. front ++ l) e ∙ sym (append_assoc front before (r ∷ []))

-- a record in order is the last of all
pub rows_with : (l : Kind) (s : Station) (r : Record) → UpTo l s → rank l ≤ rank (kind_of r) → rows (with_record s r) ≡ rows s ++ r ∷ []
rows_with l s (Communicator x) none h = push_last Communicator s.communicators x _ (none_mapped Module s.modules _ (none Modules (omega arith)) (none_mapped Mode s.modes _ (none Modes (omega arith)) (none_mapped Task s.tasks _ (none Tasks (omega arith)) (none_mapped Read s.reads _ (none Reads (omega arith)) (none_mapped Write s.writes _ (none Writes (omega arith)) (none_mapped Dependency s.dependencies _ (none Dependencies (omega arith)) (last_none Switch s.switches (none Switches (omega arith)))))))))
rows_with l s (Module x) none h = push_behind (map Communicator s.communicators) _ _ (Module x) (push_last Module s.modules x _ (none_mapped Mode s.modes _ (none Modes (omega arith)) (none_mapped Task s.tasks _ (none Tasks (omega arith)) (none_mapped Read s.reads _ (none Reads (omega arith)) (none_mapped Write s.writes _ (none Writes (omega arith)) (none_mapped Dependency s.dependencies _ (none Dependencies (omega arith)) (last_none Switch s.switches (none Switches (omega arith)))))))))
rows_with l s (Mode x) none h = push_behind (map Communicator s.communicators) _ _ (Mode x) (push_behind (map Module s.modules) _ _ (Mode x) (push_last Mode s.modes x _ (none_mapped Task s.tasks _ (none Tasks (omega arith)) (none_mapped Read s.reads _ (none Reads (omega arith)) (none_mapped Write s.writes _ (none Writes (omega arith)) (none_mapped Dependency s.dependencies _ (none Dependencies (omega arith)) (last_none Switch s.switches (none Switches (omega arith)))))))))
rows_with l s (Task x) none h = push_behind (map Communicator s.communicators) _ _ (Task x) (push_behind (map Module s.modules) _ _ (Task x) (push_behind (map Mode s.modes) _ _ (Task x) (push_last Task s.tasks x _ (none_mapped Read s.reads _ (none Reads (omega arith)) (none_mapped Write s.writes _ (none Writes (omega arith)) (none_mapped Dependency s.dependencies _ (none Dependencies (omega arith)) (last_none Switch s.switches (none Switches (omega arith)))))))))
rows_with l s (Read x) none h = push_behind (map Communicator s.communicators) _ _ (Read x) (push_behind (map Module s.modules) _ _ (Read x) (push_behind (map Mode s.modes) _ _ (Read x) (push_behind (map Task s.tasks) _ _ (Read x) (push_last Read s.reads x _ (none_mapped Write s.writes _ (none Writes (omega arith)) (none_mapped Dependency s.dependencies _ (none Dependencies (omega arith)) (last_none Switch s.switches (none Switches (omega arith)))))))))
rows_with l s (Write x) none h = push_behind (map Communicator s.communicators) _ _ (Write x) (push_behind (map Module s.modules) _ _ (Write x) (push_behind (map Mode s.modes) _ _ (Write x) (push_behind (map Task s.tasks) _ _ (Write x) (push_behind (map Read s.reads) _ _ (Write x) (push_last Write s.writes x _ (none_mapped Dependency s.dependencies _ (none Dependencies (omega arith)) (last_none Switch s.switches (none Switches (omega arith)))))))))
rows_with l s (Dependency x) none h = push_behind (map Communicator s.communicators) _ _ (Dependency x) (push_behind (map Module s.modules) _ _ (Dependency x) (push_behind (map Mode s.modes) _ _ (Dependency x) (push_behind (map Task s.tasks) _ _ (Dependency x) (push_behind (map Read s.reads) _ _ (Dependency x) (push_behind (map Write s.writes) _ _ (Dependency x) (push_last Dependency s.dependencies x _ (last_none Switch s.switches (none Switches (omega arith)))))))))
rows_with l s (Switch x) none h = push_behind (map Communicator s.communicators) _ _ (Switch x) (push_behind (map Module s.modules) _ _ (Switch x) (push_behind (map Mode s.modes) _ _ (Switch x) (push_behind (map Task s.tasks) _ _ (Switch x) (push_behind (map Read s.reads) _ _ (Switch x) (push_behind (map Write s.writes) _ _ (Switch x) (push_behind (map Dependency s.dependencies) _ _ (Switch x) (map_push Switch s.switches x)))))))
