-- What tables that keep every rule promise.
use Rattle.std.proofs.Common.{◌≡◌, ℕ, ◌<◌, Bool, true, false, not, ◌&&◌, ◌||◌, eqb, ltb, leb, length, Some, None, Option, sym, refl, ap, ◌∙◌, subst, inl, inr, arith}
use Rattle.fault.specs.declared.Rule.TheVariants.{Fields, Hierarchy, Timing, Feeding, Window, Refinement, Writers}
use Rattle.std.proofs.lemmas.Bool.{ltb-true, eqb-true, eq-eqb, and_parts, and_from, or_left, or_right, cases_Bool, not-true, both_ways}
use Rattle.std.proofs.lemmas.Bool.Decides.{nat_tests}
use Rattle.std.proofs.lemmas.List.Folds.{list_any_at}
use Rattle.tables.specs.Stations.{Station, Few}
use Rattle.tables.specs.declared.records.Kind.TheVariants.{Tasks}
use Rattle.tables.specs.declared.records.Place.TheVariants.{Module, Mode, Task, Dependency}
use Rattle.levels.proofs.Meeting.{reached_once}
use Rattle.rules.proofs.Places.{kept_at}
use Rattle.rules.proofs.Racing.{Family, races_none, owner_cases, never, same_number}
use Rattle.levels.proofs.Reaching.{Named, met_reaches}
use Rattle.lookups.proofs.Listing.{any_found, all_at}
use Rattle.lookups.proofs.Searching.{every_all}
use Rattle.tables.specs.declared.records.Write.{Write}
use Rattle.windows.proofs.Windowing.{Ascend, opening_is, end_is}
use Rattle.levels.specs.Levels.{meets, Over, itself, owner}
use Rattle.lookups.specs.Lookups.{module_at, mode_at, task_at, write_at, dependency_at, is_number, is_none, is_abstract, mode_of, module_of, owner_of}
use Rattle.rules.specs.Promises.{Laws}
use Rattle.rules.specs.Rules.{none_or_below, owner_before, period_of_owner, has_its_parent, refines, writes_within, depends_within, apart_from_siblings, apart_one, writes_to, rivals, contested, clashes, writes_twice, listed_form}
use Rattle.rules.specs.Verdicts.{Keeps}
use Rattle.windows.specs.Windows.{opening, end}

-- each part of a chain of tests
first_of_5 : (a b c d e : Bool) → (a && b && c && d && e) ≡ true → a ≡ true
first_of_5 a b c d e h = (and_parts a b (and_parts (a && b) c (and_parts (a && b && c) d (and_parts (a && b && c && d) e h).0).0).0).0

all_of_7 : (a b c d e f g : Bool) → (a && b && c && d && e && f && g) ≡ true → (a ≡ true) × (b ≡ true) × (e ≡ true) × (f ≡ true) × (g ≡ true)
all_of_7 a b c d e f g h =
    let g7 = and_parts (a && b && c && d && e && f) g h in
    let f6 = and_parts (a && b && c && d && e) f g7.0 in
    let e5 = and_parts (a && b && c && d) e f6.0 in
    let d4 = and_parts (a && b && c) d e5.0 in
    let c3 = and_parts (a && b) c d4.0 in
    let b2 = and_parts a b c3.0 in
    (b2.0, b2.1, e5.1, f6.1, g7.1)

implied : (a b : Bool) → (not a || b) ≡ true → a ≡ true → b ≡ true
implied true b e h = e
implied false b e h = absurd (cc)

apart_tells : (n : Bool) (a b c d : ℕ) → (not n || (not (eqb a b) && eqb c d)) ≡ true → n ≡ true → (a ≡ b → ⊥) × (c ≡ d)
apart_tells n a b c d e h =
    let q = and_parts (not (eqb a b)) (eqb c d) (implied n (not (eqb a b) && eqb c d) e h) in
    (λ m. both_ways (eqb a b) (not-true (eqb a b) q.0) (eq-eqb a b m), eqb-true c d q.1)

below_ltb : (m n : ℕ) → m < n → ltb m n ≡ true
below_ltb m n h = grind (arith, nat_tests)

not_rivals :
    (x y : Bool) (a b c d : ℕ) → x ≡ true → y ≡ true → ((x && y && (not (eqb c d) || eqb a b)) ≡ true → ⊥) → (a ≡ b → ⊥) × (c ≡ d)
not_rivals x y a b c d e f peace =
    let both = and_from x y e f in (
      λ m. peace (and_from (x && y) (not (eqb c d) || eqb a b) both (or_right (not (eqb c d)) (eqb a b) (eq-eqb a b m))),
      elim (cases_Bool (eqb c d)) [
        | inl t ↦ eqb-true c d t
        | inr t ↦ absurd (peace (and_from (x && y) (not (eqb c d) || eqb a b) both (or_left (not (eqb c d)) (eqb a b) (ap not t))))
      ],
    )

none_is : (o : Option ℕ) → is_none o ≡ true → o ≡ None
none_is None e = refl
none_is (Some x) e = absurd (cc)

-- the write that stands where there is none
abbrev blank : Write
blank = record { task = 0; output = 0; communicator = 0; offset = 0 }

module _ (s : Station) (k : Keeps s) where
  named : Named s
  named =
      record {
        owner_there =
            λ i o h e.
            let modes = length s.modes in
            let q = (and_parts (none_or_below (module_at s i).owner modes) (ltb (module_at s i).start modes) (kept_at s k Fields (Module i) h)).0 in
            ltb-true o modes (sym (ap (λ x. none_or_below x modes) e) ∙ q);
        home_there =
            λ d h.
            ltb-true _ _ (and_parts (ltb (mode_at s d).home (length s.modules)) (leb 1 (mode_at s d).period) (kept_at s k Fields (Mode d) h)).0;
      }

  mode_there : (t : ℕ) → t < length s.tasks → mode_of s t < length s.modes
  mode_there t h =
      ltb-true (mode_of s t) (length s.modes)
      (first_of_5 (ltb (mode_of s t) (length s.modes)) (leb (task_at s t).inputs 4) (leb (task_at s t).outputs 4) (none_or_below (task_at s t).parent (length s.tasks)) (listed_form (task_at s t).form) (kept_at s k Fields (Task t) h))

  parent_there : (t p : ℕ) → t < length s.tasks → (task_at s t).parent ≡ Some p → p < length s.tasks
  parent_there t p h e =
      let all = kept_at s k Fields (Task t) h in
      let a = ltb (mode_of s t) (length s.modes) && leb (task_at s t).inputs 4 && leb (task_at s t).outputs 4 in
      let q = (and_parts a (none_or_below (task_at s t).parent (length s.tasks)) (and_parts (a && none_or_below (task_at s t).parent (length s.tasks)) (listed_form (task_at s t).form) all).0).1 in
      ltb-true p (length s.tasks) (sym (ap (λ x. none_or_below x (length s.tasks)) e) ∙ q)

  placed : (t : ℕ) → t < length s.tasks → module_of s t < length s.modules
  placed t h = named.home_there (mode_of s t) (mode_there t h)

  -- the three parts of the rule on modules
  ordered :
      (i : ℕ) → i < length s.modules
      → ((mode_at s (module_at s i).start).home ≡ i) × (owner_before s i (module_at s i).owner ≡ true) × (meets s i 8 None ≡ true)
  ordered i h =
      let a = eqb (mode_at s (module_at s i).start).home i in
      let b = owner_before s i (module_at s i).owner in
      let q = and_parts (a && b) (meets s i 8 None) (kept_at s k Hierarchy (Module i) h) in
      let r = and_parts a b q.0 in
      (eqb-true _ _ r.0, r.1, q.1)

  owner_lower : (i o : ℕ) → i < length s.modules → (module_at s i).owner ≡ Some o → (mode_at s o).home < i
  owner_lower i o h e = ltb-true (mode_at s o).home i (sym (ap (owner_before s i) e) ∙ (ordered i h).1)

  no_parent : (t : ℕ) → t < length s.tasks → owner_of s t ≡ None → (task_at s t).parent ≡ None
  no_parent t h e = none_is (task_at s t).parent (sym (ap (has_its_parent s t) e) ∙ kept_at s k Refinement (Task t) h)

  -- what refines has a parent, and this is what it keeps
  abbrev Refined : ℕ → ℕ → ℕ → Type 0
  Refined t o p =
      (is_abstract (task_at s p).form ≡ true) × (eqb (mode_of s p) o ≡ true)
      × (writes_within s t p ≡ true) × (depends_within s t p ≡ true) × (apart_from_siblings s t p ≡ true)

  refined : (t o : ℕ) (parent : Option ℕ) → refines s t o parent ≡ true → (p : ℕ) × (parent ≡ Some p) × Refined t o p
  refined t o None e = absurd (cc)
  refined t o (Some p) e = (
    p,
    refl,
    all_of_7 (is_abstract (task_at s p).form) (eqb (mode_of s p) o) (leb (opening s t) (opening s p)) (leb (end s p) (end s t)) (writes_within s t p) (depends_within s t p) (apart_from_siblings s t p) e,
  )

  refining : (t o : ℕ) → t < length s.tasks → owner_of s t ≡ Some o → (p : ℕ) × ((task_at s t).parent ≡ Some p) × Refined t o p
  refining t o h e = refined t o (task_at s t).parent (sym (ap (has_its_parent s t) e) ∙ kept_at s k Refinement (Task t) h)

  -- the same of a task by its parent
  under_parent : (t p : ℕ) → t < length s.tasks → (task_at s t).parent ≡ Some p → (o : ℕ) × (owner_of s t ≡ Some o) × Refined t o p
  under_parent t p h e =
      elim (owner_cases (owner_of s t)) [
        | inl n ↦ absurd (never (task_at s t).parent p (no_parent t h n) e)
        | inr o ↦
            let q = refining t o.0 h o.1 in
            (o.0, o.1, subst (Refined t o.0) (same_number (task_at s t).parent q.0 p q.1 e) q.2)
      ]

  number_is : (o : Option ℕ) (p : ℕ) → o ≡ Some p → is_number o p ≡ true
  number_is o p e = ap (λ x. is_number x p) e ∙ eq-eqb p p refl

  siblings_apart :
      (t u p : ℕ) → t < u → u < length s.tasks → (task_at s t).parent ≡ Some p → (task_at s u).parent ≡ Some p
      → (mode_of s t ≡ mode_of s u → ⊥) × (module_of s t ≡ module_of s u)
  siblings_apart t u p l h e g =
      let r = (under_parent u p h g).2 in
      let a = every_all (λ x. apart_one s x u p) u r.4 t l in
      apart_tells (is_number (task_at s t).parent p) (mode_of s t) (mode_of s u) (module_of s t) (module_of s u) a (number_is (task_at s t).parent p e)

  parent_writes : (t p c : ℕ) → t < length s.tasks → (task_at s t).parent ≡ Some p → writes_to s t c ≡ true → writes_to s p c ≡ true
  parent_writes t p c h e w =
      let r = (under_parent t p h e).2 in
      let q = any_found (λ x. eqb x.task t && eqb x.communicator c) blank s.writes w in
      let a = all_at (λ x. not (eqb x.task t) || writes_to s p x.communicator) blank s.writes r.2 q.0 q.1 in
      let b = and_parts (eqb (write_at s q.0).task t) (eqb (write_at s q.0).communicator c) q.2 in
      let same = eqb-true (write_at s q.0).communicator c b.1 in
      subst (λ x. writes_to s p x ≡ true) same (implied (eqb (write_at s q.0).task t) (writes_to s p (write_at s q.0).communicator) a b.0)

  -- rivals that write one communicator clash
  rivals_clash : (t u c : ℕ) → t < u → rivals s t u ≡ true → writes_to s t c ≡ true → writes_to s u c ≡ true → clashes s u ≡ true
  rivals_clash t u c l r w x =
      let wt = any_found (λ y. eqb y.task t && eqb y.communicator c) blank s.writes w in
      let wu = any_found (λ y. eqb y.task u && eqb y.communicator c) blank s.writes x in
      let i = wt.0 in
      let j = wu.0 in
      let a = and_parts (eqb (write_at s i).task t) (eqb (write_at s i).communicator c) wt.2 in
      let b = and_parts (eqb (write_at s j).task u) (eqb (write_at s j).communicator c) wu.2 in
      let ti : (write_at s i).task ≡ t = eqb-true (write_at s i).task t a.0 in
      let cj : (write_at s j).communicator ≡ c = eqb-true (write_at s j).communicator c b.1 in
      let low : ltb (write_at s i).task u ≡ true = ap (λ y. ltb y u) ti ∙ below_ltb t u l in
      let rival : rivals s (write_at s i).task u ≡ true = ap (λ y. rivals s y u) ti ∙ r in
      let contest : contested s u c ≡ true =
      list_any_at (λ y. eqb y.communicator c && ltb y.task u && rivals s y.task u) s.writes i blank wt.1
      (and_from (eqb (write_at s i).communicator c && ltb (write_at s i).task u) (rivals s (write_at s i).task u) (and_from (eqb (write_at s i).communicator c) (ltb (write_at s i).task u) a.1 low) rival) in
      list_any_at (λ y. eqb y.task u && contested s u y.communicator) s.writes j blank wu.1
      (and_from (eqb (write_at s j).task u) (contested s u (write_at s j).communicator) b.0 (ap (contested s u) cj ∙ contest))

  no_clash : (u : ℕ) → u < length s.tasks → clashes s u ≡ false
  no_clash u h = not-true (clashes s u) (and_parts (not (clashes s u)) (not (writes_twice s u)) (kept_at s k Writers (Task u) h)).0

  tops_apart :
      (t u c : ℕ) → t < u → u < length s.tasks → owner_of s t ≡ None → owner_of s u ≡ None → writes_to s t c ≡ true → writes_to s u c ≡ true
      → (mode_of s t ≡ mode_of s u → ⊥) × (module_of s t ≡ module_of s u)
  tops_apart t u c l h e g w x =
      let peace : (rivals s t u ≡ true) → ⊥ = λ r. both_ways (clashes s u) (no_clash u h) (rivals_clash t u c l r w x) in
      not_rivals (is_none (owner_of s t)) (is_none (owner_of s u)) (mode_of s t) (mode_of s u) (module_of s t) (module_of s u) (ap is_none e) (ap is_none g) peace

  family : Family s
  family =
      record {
        placed = placed;
        no_parent = no_parent;
        parent =
            λ t o h e.
            let q = refining t o h e in
            let p = q.0 in
            let there = parent_there t p h q.1 in
            let mode : mode_of s p ≡ o = eqb-true (mode_of s p) o q.2.1 in
            let lower = owner_lower (module_of s t) o (placed t h) e in
            (p, q.1, there, mode, q.2.0, subst (λ m. (mode_at s m).home < module_of s t) (sym mode) lower);
        parent_writes = parent_writes;
        apart = siblings_apart;
        tops = tops_apart;
      }

  owner_period : (d o : ℕ) → d < length s.modes → (module_at s (mode_at s d).home).owner ≡ Some o → (mode_at s d).period ≡ (mode_at s o).period
  owner_period d o h e =
      eqb-true (mode_at s d).period (mode_at s o).period
      (sym (ap (period_of_owner s (mode_at s d).period) e) ∙ kept_at s k Timing (Mode d) h)

  period_over : (e d : ℕ) → Over s e d → (mode_at s d).period ≡ (mode_at s e).period
  period_over e d itself = refl
  period_over e d (owner d' o h g a) = owner_period d o h g ∙ period_over e o a

  dependency_ascends :
      (j : ℕ) → j < length s.dependencies
      → (mode_of s (dependency_at s j).task ≡ mode_of s (dependency_at s j).to) × ((dependency_at s j).task < (dependency_at s j).to)
  dependency_ascends j h =
      let q = and_parts (eqb (mode_of s (dependency_at s j).task) (mode_of s (dependency_at s j).to)) (ltb (dependency_at s j).task (dependency_at s j).to) (kept_at s k Feeding (Dependency j) h) in
      (eqb-true _ _ q.0, ltb-true _ _ q.1)

  ascend : Ascend s
  ascend j h =
      let x = dependency_at s j in
      let tasks = length s.tasks in
      let a = ltb x.task tasks in
      let b = ltb x.output (task_at s x.task).outputs in
      let c = ltb x.to tasks in
      let q = and_parts (a && b && c) (ltb x.input (task_at s x.to).inputs) (kept_at s k Fields (Dependency j) h) in
      let r = and_parts (a && b) c q.0 in
      ((dependency_ascends j h).1, ltb-true x.to tasks r.1)

  pub laws : Few s → Laws s
  laws few =
      record {
        start_inside = λ i h. (ordered i h).0;
        owner_smaller = λ i o h e. (named.owner_there i o h e, owner_lower i o h e);
        level_at_most_8 = λ i h. met_reaches s 8 None i (ordered i h).2;
        met_once = λ i h. reached_once s named 8 i h (met_reaches s 8 None i (ordered i h).2);
        owner_period = owner_period;
        period_over = period_over;
        opening_below_end = λ t h. ltb-true (opening s t) (end s t) (kept_at s k Window (Task t) h);
        dependencies_ascend = dependency_ascends;
        opening_is = opening_is s ascend (few Tasks);
        end_is = end_is s ascend (few Tasks);
        siblings_apart = siblings_apart;
        race_free = races_none s family;
      }
