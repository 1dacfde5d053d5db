-- The walk, step by step.
use Rattle.std.proofs.Common.{◌≡◌, ℕ, zero, suc, ◌+◌, ◌-◌, ◌<◌, ◌≤◌, Bool, true, false, cond, eqb, List, [], ◌∷◌, length, Some, None, Ok, Err, Option, Result, sym, refl, ap, ◌∙◌, inl, inr, arith}
use Rattle.fault.specs.declared.Fault.{Fault}
use Rattle.fault.specs.declared.Fault.TheVariants.{TooMany}
use Rattle.format.specs.Records.{size}
use Rattle.std.proofs.lemmas.List.{length-drop}
use Rattle.std.proofs.lemmas.Bool.{cases_Bool}
use Rattle.std.proofs.lemmas.Bool.Decides.{nat_tests}
use Rattle.tables.specs.Kinds.{kind_of}
use Rattle.tables.specs.Stations.{Station, has_room, with_record, taken_in}
use Rattle.tables.specs.declared.records.Kind.{Kind}
use Rattle.tables.specs.declared.records.Kind.TheVariants.{Communicators, Modules, Modes, Tasks, Reads, Writes, Dependencies, Switches}
use Rattle.tables.specs.declared.records.Record.{Record}
use Rattle.reader.specs.Steps.{Standing, next_record, past, handed, stepped}
use Rattle.reader.specs.Walks.{onward, unless_over, walked, records}
use Rattle.reader.specs.declared.Numbered.{Numbered}

over : (bs : List ℕ) (s : Station) (more : Result Station Fault) → length bs ≡ 0 → unless_over bs s more ≡ Ok s
over [] s more h = refl
over (b ∷ bs) s more h = absurd (omega arith)

not_over : (bs : List ℕ) (s : Station) (more : Result Station Fault) → 0 < length bs → unless_over bs s more ≡ more
not_over [] s more h = absurd (omega arith)
not_over (b ∷ bs) s more h = refl

-- a walk with no bytes left is over
pub walk_over : (k : ℕ) (at : Standing) (s : Station) → length at.left ≡ 0 → walked k at s ≡ Ok s
unfolding walked
walk_over zero at s h = refl
walk_over (suc k) at s h = over at.left s (onward (walked k) at s (next_record at)) h

-- with some left it goes on by one record
pub walk_on : (k : ℕ) (at : Standing) (s : Station) → 0 < length at.left → walked (suc k) at s ≡ onward (walked k) at s (next_record at)
unfolding walked
walk_on k at s h = not_over at.left s (onward (walked k) at s (next_record at)) h

-- what a walk comes to after a step, by what the step handed out; at most k records follow
abbrev pub turned : ℕ → Station → Result (Option Numbered) Fault × Standing → Result Station Fault
turned k s (Err f, at) = Err f
turned k s (Ok None, at) = Ok s
turned k s (Ok (Some x), at) = cond (has_room s x.«record») (walked k at (with_record s x.«record»)) (Err (TooMany x.number))

turn : (k : ℕ) (at : Standing) (s : Station) (left : List ℕ) (nr : Result Record Fault)
    → unless_over left s (onward (walked k) at s nr) ≡ turned k s (cond (eqb (length left) 0) (Ok None, at) (handed at nr))
turn k at s [] nr = refl
turn k at s (b ∷ bs) (Err f) = grind (arith, nat_tests)
turn k at s (b ∷ bs) (Ok r) = grind (arith, nat_tests)

walk_turn : (k : ℕ) (at : Standing) (s : Station) → length at.left ≤ k → walked k at s ≡ turned (k - 1) s (stepped at)
unfolding walked
walk_turn zero at s h =
    let none : length at.left ≡ 0 = omega arith in
    sym (ap (λ n. turned 0 s (cond (eqb n 0) (Ok None, at) (handed at (next_record at)))) none)
walk_turn (suc k) at s h = turn k at s at.left (next_record at) ∙ ap (λ m. turned m s (stepped at)) (omega arith)

-- a record is never without bytes
pub size_some : (k : Kind) → 0 < size k
size_some Communicators = omega arith
size_some Modules = omega arith
size_some Modes = omega arith
size_some Tasks = omega arith
size_some Reads = omega arith
size_some Writes = omega arith
size_some Dependencies = omega arith
size_some Switches = omega arith

abbrev Handed : Type 0
Handed = Result (Option Numbered) Fault × Standing

passed :
    (at at' : Standing) (x : Numbered) (b : Bool) (nr : Result Record Fault)
    → (Ok (Some x), at') ≡ cond b (Ok None, at) (handed at nr) → (b ≡ false) × (at' ≡ past at x.«record»)
passed at at' x true nr e = let first = ap (λ (p : Handed). p.0) e in (cc, cc)
passed at at' x false (Err f) e = let first = ap (λ (p : Handed). p.0) e in (cc, cc)
passed at at' x false (Ok r) e =
    let first = ap (λ (p : Handed). p.0) e in
    let second = ap (λ (p : Handed). p.1) e in
    (refl, cc)

-- a step that hands a record out goes past it
pub step_past :
    (at at' : Standing) (x : Numbered)
    → (Ok (Some x), at') ≡ stepped at → (length at'.left < length at.left) × (at'.number ≡ at.number + 1)
step_past at at' x e =
    let p = passed at at' x (eqb (length at.left) 0) (next_record at) e in
    let some : 0 < length at.left = grind (arith, nat_tests) in
    let fewer = ap (λ (p : Standing). length p.left) p.1 ∙ length-drop (size (kind_of x.«record»)) at.left in
    (omega (arith, size_some (kind_of x.«record»)), ap (λ (p : Standing). p.number) p.1)

-- what the turns of the walk keep: enough records are allowed for, and what is left completes the station
abbrev pub Underway : List ℕ → Standing → Station → Type 0
Underway bs at s = (at.number + length at.left ≤ length bs) × (records bs ≡ walked (length bs - at.number) at s)

-- what the bytes say is what a turn comes to
pub walk_step :
    (bs : List ℕ) (at at' : Standing) (s : Station) (r : Result (Option Numbered) Fault)
    → Underway bs at s → (r, at') ≡ stepped at → turned (length bs - at.number - 1) s (r, at') ≡ records bs
walk_step bs at at' s r u e =
    let k = length bs - at.number in
    ap (turned (k - 1) s) e ∙ sym (u.1 ∙ walk_turn k at s (omega (arith, u.0)))

-- a record that is one too many
pub walk_full :
    (bs : List ℕ) (at at' : Standing) (s : Station) (x : Numbered) (f : Fault)
    → Underway bs at s → (Ok (Some x), at') ≡ stepped at → Err f ≡ taken_in s x.number x.«record» → Err f ≡ records bs
walk_full bs at at' s x f u e t =
    let w = walk_step bs at at' s (Ok (Some x)) u e in
    elim (cases_Bool (has_room s x.«record»)) [
      | inl v ↦ cc
      | inr v ↦ cc
    ]

-- a record that was stored
pub walk_stored :
    (bs : List ℕ) (at at' : Standing) (s s' : Station) (x : Numbered) (u : Unit {0})
    → Underway bs at s → (Ok (Some x), at') ≡ stepped at → Ok u ≡ taken_in s x.number x.«record» → s' ≡ cond (has_room s x.«record») (with_record s x.«record») s
    → Underway bs at' s'
walk_stored bs at at' s s' x unit u e t n =
    let w = walk_step bs at at' s (Ok (Some x)) u e in
    let p = step_past at at' x e in
    let fuel : length bs - at'.number ≡ length bs - at.number - 1 = omega arith in
    elim (cases_Bool (has_room s x.«record»)) [
      | inl v ↦ (omega (arith, u.0), cc)
      | inr v ↦ (cc, cc)
    ]
