-- The walk meets a module within n levels exactly if its level is at most n.
use Rattle.std.proofs.Common.{◌≡◌, ℕ, zero, suc, ◌<◌, true, ◌&&◌, eqb, ◌⊎◌, length, Some, None, Option, sym, refl, ap, ◌∙◌, subst, inl, inr}
use Rattle.std.proofs.lemmas.Bool.{eqb-true, eq-eqb, and_parts, and_from, or_cases, or_left, or_right}
use Rattle.tables.specs.Stations.{Station}
use Rattle.lookups.proofs.Searching.{any_at, any_some}
use Rattle.levels.specs.Levels.{same_owner, meets, meets_module, Reach, within, under}
use Rattle.lookups.specs.Lookups.{module_at, mode_at}

-- what the walk needs of the tables
pub record Named (s : Station) : Type 0 where
  pub owner_there : (i o : ℕ) → i < length s.modules → (module_at s i).owner ≡ Some o → o < length s.modes
  pub home_there : (d : ℕ) → d < length s.modes → (mode_at s d).home < length s.modules

-- the test of owners
pub owner_same : (a b : Option ℕ) → same_owner a b ≡ true → a ≡ b
owner_same None None e = refl
owner_same None (Some y) e = absurd (cc)
owner_same (Some x) None e = absurd (cc)
owner_same (Some x) (Some y) e = ap Some (eqb-true x y e)

pub same_owned : (a : Option ℕ) → same_owner a a ≡ true
same_owned None = refl
same_owned (Some x) = eq-eqb x x refl

pub owned_same : (a b : Option ℕ) → a ≡ b → same_owner a b ≡ true
owned_same a b e = subst (λ o. same_owner a o ≡ true) e (same_owned a)

-- one step of the walk, both ways
abbrev Step : Station → ℕ → ℕ → ℕ → Type 0
Step s i n m = (m ≡ i) ⊎ ((d : ℕ) × (d < length s.modes) × ((mode_at s d).home ≡ m) × (meets s i n (Some d) ≡ true))

step_met : (s : Station) (i n : ℕ) (o : Option ℕ) (m : ℕ) → m < length s.modules → (module_at s m).owner ≡ o → Step s i n m → meets s i (suc n) o ≡ true
unfolding meets
step_met s i n o m l e t =
    any_at (λ m. same_owner (module_at s m).owner o && meets_module s i n m) m _ l
    (and_from _ _ (owned_same _ _ e)
    (elim t [
      | inl f ↦ or_left _ _ (eq-eqb _ _ f)
      | inr q ↦
          or_right _ _
          (any_at (λ d. eqb (mode_at s d).home m && meets s i n (Some d)) q.0 _ q.1 (and_from _ _ (eq-eqb _ _ q.2) q.3))
    ]))

met_step : (s : Station) (i n : ℕ) (o : Option ℕ) → meets s i (suc n) o ≡ true → (m : ℕ) × (m < length s.modules) × ((module_at s m).owner ≡ o) × Step s i n m
unfolding meets
met_step s i n o e =
    let q = any_some (λ m. same_owner (module_at s m).owner o && meets_module s i n m) _ e in
    let a = and_parts (same_owner (module_at s q.0).owner o) _ q.2 in (
      q.0,
      q.1,
      owner_same _ _ a.0,
      elim (or_cases (eqb q.0 i) _ a.1) [
        | inl f ↦ inl (eqb-true _ _ f)
        | inr f ↦
            let r = any_some (λ d. eqb (mode_at s d).home q.0 && meets s i n (Some d)) _ f in
            let b = and_parts (eqb (mode_at s r.0).home q.0) _ r.2 in
            inr (r.0, r.1, eqb-true _ _ b.0, b.1)
      ],
    )

meets_never : (s : Station) (i : ℕ) (o : Option ℕ) → meets s i 0 o ≡ true → ⊥
unfolding meets
meets_never s i o e = cc

-- one level more above
higher : (s : Station) (d : ℕ) (o : Option ℕ) → (module_at s (mode_at s d).home).owner ≡ o → (n i : ℕ) → Reach s (Some d) n i → Reach s o (suc n) i
higher s d o e zero i r = elim r [ ]
higher s d o e (suc n) i (within n' i' f) = under (suc n) i d f (within n (mode_at s d).home e)
higher s d o e (suc n) i (under n' i' c g r) = under (suc n) i c g (higher s d o e n (mode_at s c).home r)

pub met_reaches : (s : Station) (n : ℕ) (o : Option ℕ) (i : ℕ) → meets s i n o ≡ true → Reach s o n i
met_reaches s zero o i e = absurd (meets_never s i o e)
met_reaches s (suc n) o i e =
    let q = met_step s i n o e in
    elim q.3 [
      | inl f ↦ within n i (ap (λ x. (module_at s x).owner) (sym f) ∙ q.2)
      | inr r ↦ higher s r.0 o (ap (λ x. (module_at s x).owner) r.2 ∙ q.2) n i (met_reaches s n (Some r.0) i r.3)
    ]

-- one level more below
lower :
    (s : Station) (i c : ℕ) → i < length s.modules → (module_at s i).owner ≡ Some c → c < length s.modes → (n : ℕ) (o : Option ℕ)
    → meets s (mode_at s c).home n o ≡ true → meets s i (suc n) o ≡ true
lower s i c l g d zero o e = absurd (meets_never s (mode_at s c).home o e)
lower s i c l g d (suc n) o e =
    let q = met_step s (mode_at s c).home n o e in
    step_met s i (suc n) o q.0 q.1 q.2
    (elim q.3 [
      | inl f ↦ inr (c, d, sym f, step_met s i n (Some c) i l g (inl refl))
      | inr r ↦ inr (r.0, r.1, r.2, lower s i c l g d n (Some r.0) r.3)
    ])

pub reaches_met : (s : Station) → Named s → (n : ℕ) (o : Option ℕ) (i : ℕ) → i < length s.modules → Reach s o n i → meets s i n o ≡ true
reaches_met s k zero o i l r = elim r [ ]
reaches_met s k (suc n) o i l (within n' i' e) = step_met s i n o i l e (inl refl)
reaches_met s k (suc n) o i l (under n' i' c g r) =
    let d = k.owner_there i c l g in
    lower s i c l g d n o (reaches_met s k n o (mode_at s c).home (k.home_there c d) r)
