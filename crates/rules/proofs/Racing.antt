-- Tasks that are active together never write one communicator.
use Rattle.std.proofs.Common.{◌≡◌, ℕ, zero, suc, ◌+◌, ◌<◌, true, false, ◌⊎◌, length, Some, None, Option, sym, refl, ap, ◌∙◌, subst, inl, inr, arith}
use Rattle.std.proofs.lemmas.Bool.{cases_order}
use Rattle.tables.specs.Stations.{Station}
use Rattle.rules.specs.Activity.{Configuration, Active, RaceFree}
use Rattle.lookups.specs.Lookups.{mode_at, task_at, is_abstract, mode_of, module_of, owner_of}
use Rattle.rules.specs.Rules.{writes_to}

-- what the rules give, in the words of tasks
pub record Family (s : Station) : Type 0 where
  -- a task lies in a module that exists
  pub placed : (t : ℕ) → t < length s.tasks → module_of s t < length s.modules
  -- a task of a top module has no parent
  pub no_parent : (t : ℕ) → t < length s.tasks → owner_of s t ≡ None → (task_at s t).parent ≡ None
  -- any other has one in the owner mode, abstract, in a module of smaller number
  pub parent :
      (t o : ℕ) → t < length s.tasks → owner_of s t ≡ Some o
      → (p : ℕ) × ((task_at s t).parent ≡ Some p) × (p < length s.tasks) × (mode_of s p ≡ o) × (is_abstract (task_at s p).form ≡ true) × (module_of s p < module_of s t)
  -- what a task writes its parent writes
  pub parent_writes : (t p c : ℕ) → t < length s.tasks → (task_at s t).parent ≡ Some p → writes_to s t c ≡ true → writes_to s p c ≡ true
  -- siblings lie in different modes of one module
  pub apart :
      (t u p : ℕ) → t < u → u < length s.tasks → (task_at s t).parent ≡ Some p → (task_at s u).parent ≡ Some p
      → (mode_of s t ≡ mode_of s u → ⊥) × (module_of s t ≡ module_of s u)
  -- tasks of top modules that write one communicator lie in different modes of one module
  pub tops :
      (t u c : ℕ) → t < u → u < length s.tasks → owner_of s t ≡ None → owner_of s u ≡ None → writes_to s t c ≡ true → writes_to s u c ≡ true
      → (mode_of s t ≡ mode_of s u → ⊥) × (module_of s t ≡ module_of s u)

pub owner_cases : (o : Option ℕ) → (o ≡ None) ⊎ ((x : ℕ) × (o ≡ Some x))
owner_cases None = inl refl
owner_cases (Some x) = inr (x, refl)

pub never : (o : Option ℕ) (x : ℕ) → o ≡ None → o ≡ Some x → ⊥
never o x e f = cc

pub same_number : (o : Option ℕ) (x y : ℕ) → o ≡ Some x → o ≡ Some y → x ≡ y
same_number o x y e f = cc

-- a task at or above another in the line of parents
data Above (s : Station) (i : ℕ) : ℕ → Type 0 where
  here : Above s i i
  higher : (j p : ℕ) → (task_at s j).parent ≡ Some p → Above s i p → Above s i j

module _ (s : Station) (f : Family s) (active : ℕ → Option ℕ) (conf : Configuration s active) (c : ℕ) where
  -- a task that is active and writes the communicator
  pub record Writer (t : ℕ) : Type 0 where
    pub inside : t < length s.tasks
    pub awake : Active s active t
    pub writes : writes_to s t c ≡ true

  -- two of them in one module lie in one mode
  one_mode : (t u : ℕ) → Writer t → Writer u → module_of s t ≡ module_of s u → mode_of s t ≡ mode_of s u
  one_mode t u w x e = same_number (active (module_of s u)) (mode_of s t) (mode_of s u) (sym (ap active e) ∙ w.awake) x.awake

  -- so those of which that is excluded are the same
  same_unless :
      (t u : ℕ) → Writer t → Writer u
      → (t < u → (mode_of s t ≡ mode_of s u → ⊥) × (module_of s t ≡ module_of s u))
      → (u < t → (mode_of s u ≡ mode_of s t → ⊥) × (module_of s u ≡ module_of s t)) → t ≡ u
  same_unless t u w x a b =
      elim (cases_order t u) [
        | inl e ↦ e
        | inr o ↦ elim o [
          | inl l ↦ let q = a l in absurd (q.0 (one_mode t u w x q.1))
          | inr l ↦ let q = b l in absurd (q.0 (one_mode u t x w q.1))
        ]
      ]

  siblings : (t u p : ℕ) → Writer t → Writer u → (task_at s t).parent ≡ Some p → (task_at s u).parent ≡ Some p → t ≡ u
  siblings t u p w x e g = same_unless t u w x (λ l. f.apart t u p l x.inside e g) (λ l. f.apart u t p l w.inside g e)

  tops_same : (t u : ℕ) → Writer t → Writer u → owner_of s t ≡ None → owner_of s u ≡ None → t ≡ u
  tops_same t u w x e g =
      same_unless t u w x
      (λ l. f.tops t u c l x.inside e g w.writes x.writes)
      (λ l. f.tops u t c l w.inside g e x.writes w.writes)

  -- the parent of a writer is a writer
  lifted : (t p : ℕ) → Writer t → (task_at s t).parent ≡ Some p → Writer p × (module_of s p < module_of s t) × (is_abstract (task_at s p).form ≡ true)
  lifted t p w e =
      elim (owner_cases (owner_of s t)) [
        | inl n ↦ absurd (never (task_at s t).parent p (f.no_parent t w.inside n) e)
        | inr o ↦
            let q = f.parent t o.0 w.inside o.1 in
            let same : q.0 ≡ p = same_number (task_at s t).parent q.0 p q.1 e in
            let up : active (mode_at s o.0).home ≡ Some o.0 = conf (module_of s t) (mode_of s t) o.0 (f.placed t w.inside) w.awake o.1 in
            let awake : Active s active q.0 = ap (λ m. active (mode_at s m).home) q.3 ∙ up ∙ ap Some (sym q.3) in
            let got : Writer q.0 × (module_of s q.0 < module_of s t) × (is_abstract (task_at s q.0).form ≡ true) =
            (record { inside = q.2; awake = awake; writes = f.parent_writes t q.0 c w.inside q.1 w.writes }, q.5, q.4) in
            subst (λ x. Writer x × (module_of s x < module_of s t) × (is_abstract (task_at s x).form ≡ true)) same got
      ]

  -- down from a task above towards a writer there is a child that is one
  towards : (p j : ℕ) → Above s p j → Writer j → (p ≡ j) ⊎ ((k : ℕ) × ((task_at s k).parent ≡ Some p) × Above s k j × Writer k)
  towards p j here w = inl refl
  towards p j (higher j' q e a) w =
      elim (towards p q a (lifted j q w e).0) [
        | inl m ↦ inr (j, e ∙ ap Some (sym m), here, w)
        | inr k ↦ inr (k.0, k.1, higher j q e k.2, k.3)
      ]

  -- of two writers one is above the other
  comparable : (n i j : ℕ) → module_of s i + module_of s j < n → Writer i → Writer j → Above s i j ⊎ Above s j i
  comparable zero i j h w x = absurd (omega arith)
  comparable (suc n) i j h w x =
      elim (owner_cases (owner_of s i)) [
        | inr o ↦
            let q = f.parent i o.0 w.inside o.1 in
            let up = lifted i q.0 w q.1 in
            elim (comparable n q.0 j (omega (arith, up.1)) up.0 x) [
              | inr a ↦ inr (higher i q.0 q.1 a)
              | inl a ↦ elim (towards q.0 j a x) [
                | inl m ↦ inr (higher i q.0 q.1 (subst (λ y. Above s j y) (sym m) here))
                | inr k ↦ inl (subst (λ y. Above s y j) (sym (siblings i k.0 q.0 w k.3 q.1 k.1)) k.2)
              ]
            ]
        | inl t ↦ elim (owner_cases (owner_of s j)) [
          | inl u ↦ inl (subst (λ y. Above s i y) (tops_same i j w x t u) here)
          | inr o ↦
              let q = f.parent j o.0 x.inside o.1 in
              let up = lifted j q.0 x q.1 in
              elim (comparable n i q.0 (omega (arith, up.1)) w up.0) [
                | inl a ↦ inl (higher j q.0 q.1 a)
                | inr a ↦ inl (higher j q.0 q.1 (topmost q.0 i (f.no_parent i w.inside t) a))
              ]
        ]
      ]
    where
      topmost : (q i : ℕ) → (task_at s i).parent ≡ None → Above s q i → Above s i q
      topmost q i e here = here
      topmost q i e (higher i' p g a) = absurd (never (task_at s i).parent p e g)

  -- above a task there are only abstract ones
  above_abstract : (i j : ℕ) → Above s i j → Writer j → (i ≡ j) ⊎ (is_abstract (task_at s i).form ≡ true)
  above_abstract i j here w = inl refl
  above_abstract i j (higher j' p e a) w =
      let up = lifted j p w e in
      elim (above_abstract i p a up.0) [
        | inl m ↦ inr (ap (λ x. is_abstract (task_at s x).form) m ∙ up.2)
        | inr b ↦ inr b
      ]

  concrete_same : (i j : ℕ) → Above s i j → Writer j → is_abstract (task_at s i).form ≡ false → i ≡ j
  concrete_same i j a w e =
      elim (above_abstract i j a w) [
        | inl m ↦ m
        | inr b ↦ absurd (cc)
      ]

  pub one_writer : (i j : ℕ) → Writer i → Writer j → is_abstract (task_at s i).form ≡ false → is_abstract (task_at s j).form ≡ false → i ≡ j
  one_writer i j w x e g =
      elim (comparable (suc (module_of s i + module_of s j)) i j (omega arith) w x) [
        | inl a ↦ concrete_same i j a x e
        | inr a ↦ sym (concrete_same j i a w g)
      ]

pub races_none : (s : Station) → Family s → RaceFree s
races_none s f active conf t u c ht hu et eu at au wt wu =
    one_writer s f active conf c t u (record { inside = ht; awake = at; writes = wt }) (record { inside = hu; awake = au; writes = wu }) et eu
