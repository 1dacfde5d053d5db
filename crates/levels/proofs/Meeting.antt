-- The walk meets each module once.
use Rattle.std.proofs.Common.{◌≡◌, ℕ, zero, suc, ◌+◌, ◌<◌, Bool, eqb, length, Some, None, Option, sym, refl, ap, ◌∙◌, arith}
use Rattle.std.proofs.lemmas.Bool.Decides.{nat_tests}
use Rattle.tables.specs.Stations.{Station}
use Rattle.levels.proofs.Reaching.{Named}
use Rattle.lookups.proofs.Sums.{One, total_same, total_plus, total_none, total_one}
use Rattle.levels.specs.Levels.{same_owner, within, under, Level, meetings}
use Rattle.lookups.specs.Lookups.{module_at, mode_at}
use Rattle.lookups.specs.Searches.{total}

-- the meetings in the modes of a module
abbrev inner : Station → ℕ → ℕ → ℕ → ℕ
inner s i n m = total (λ d. eqb (mode_at s d).home m) (λ d. meetings s i n (Some d)) (length s.modes)

abbrev of_owner : Station → Option ℕ → ℕ → Bool
of_owner s o m = same_owner (module_at s m).owner o

one_sym : (a b : ℕ) → One (eqb a b) ≡ One (eqb b a)
one_sym a b = grind (arith, nat_tests)

meetings_none : (s : Station) (i : ℕ) (o : Option ℕ) → meetings s i 0 o ≡ 0
unfolding meetings
meetings_none s i o = refl

meetings_open : (s : Station) (i n : ℕ) (o : Option ℕ) → meetings s i (suc n) o ≡ total (of_owner s o) (λ m. One (eqb m i) + inner s i n m) (length s.modules)
unfolding meetings
meetings_open s i n o = refl

meetings_step :
    (s : Station) (i n : ℕ) (o : Option ℕ) → i < length s.modules
    → meetings s i (suc n) o ≡ One (of_owner s o i) + total (of_owner s o) (inner s i n) (length s.modules)
meetings_step s i n o l =
    meetings_open s i n o
    ∙ total_plus (of_owner s o) (λ m. One (eqb m i)) (inner s i n) (length s.modules)
    ∙ ap (λ x. x + total (of_owner s o) (inner s i n) (length s.modules)) (total_one (of_owner s o) i (length s.modules) l)

-- a top module is met in the top program only
top_none : (s : Station) (i : ℕ) → i < length s.modules → (module_at s i).owner ≡ None → (n d : ℕ) → meetings s i n (Some d) ≡ 0
top_none s i l e zero d = meetings_none s i (Some d)
top_none s i l e (suc n) d =
    let a = meetings_step s i n (Some d) l in
    let b =
    total_none (of_owner s (Some d)) (inner s i n) (length s.modules)
    (λ m _. total_none (λ d. eqb (mode_at s d).home m) (λ d. meetings s i n (Some d)) (length s.modes) (λ k _. top_none s i l e n k)) in
    let c : One (of_owner s (Some d) i) ≡ 0 = ap (λ x. One (same_owner x (Some d))) e in
    omega arith

top_once : (s : Station) (i n : ℕ) → i < length s.modules → (module_at s i).owner ≡ None → meetings s i (suc n) None ≡ 1
top_once s i n l e =
    let a = meetings_step s i n None l in
    let b =
    total_none (of_owner s None) (inner s i n) (length s.modules)
    (λ m _. total_none (λ d. eqb (mode_at s d).home m) (λ d. meetings s i n (Some d)) (length s.modes) (λ k _. top_none s i l e n k)) in
    let c : One (of_owner s None i) ≡ 1 = ap (λ x. One (same_owner x None)) e in
    omega arith

-- an owned module is met where its owner's module is, one level more
under_more :
    (s : Station) (i c : ℕ) → i < length s.modules → (module_at s i).owner ≡ Some c → c < length s.modes → (n : ℕ) (o : Option ℕ)
    → total (of_owner s o) (inner s i n) (length s.modules) ≡ meetings s (mode_at s c).home n o
under_more s i c l g h zero o =
    total_none (of_owner s o) (inner s i 0) (length s.modules)
    (λ m _. total_none (λ d. eqb (mode_at s d).home m) (λ d. meetings s i 0 (Some d)) (length s.modes) (λ d _. meetings_none s i (Some d)))
    ∙ sym (meetings_none s (mode_at s c).home o)
under_more s i c l g h (suc n) o =
    let up = (mode_at s c).home in
    total_same (of_owner s o) (inner s i (suc n)) (λ m. One (eqb m up) + inner s up n m) (length s.modules)
    (λ m _.
    total_same (λ d. eqb (mode_at s d).home m) (λ d. meetings s i (suc n) (Some d)) (λ d. One (eqb d c) + meetings s up n (Some d)) (length s.modes)
    (λ d _.
    meetings_step s i n (Some d) l
    ∙ ap (λ x. One (of_owner s (Some d) i) + x) (under_more s i c l g h n (Some d))
    ∙ ap (λ x. One (same_owner x (Some d)) + meetings s up n (Some d)) g
    ∙ ap (λ x. x + meetings s up n (Some d)) (one_sym c d))
    ∙ total_plus (λ d. eqb (mode_at s d).home m) (λ d. One (eqb d c)) (λ d. meetings s up n (Some d)) (length s.modes)
    ∙ ap (λ x. x + inner s up n m) (total_one (λ d. eqb (mode_at s d).home m) c (length s.modes) h ∙ one_sym up m))
    ∙ sym (meetings_open s up n o)

pub reached_once : (s : Station) → Named s → (n i : ℕ) → i < length s.modules → Level s n i → meetings s i n None ≡ 1
reached_once s k zero i l r = elim r [ ]
reached_once s k (suc n) i l (within n' i' e) = top_once s i n l e
reached_once s k (suc n) i l (under n' i' c g r) =
    let d = k.owner_there i c l g in
    let a = meetings_step s i n None l in
    let b = under_more s i c l g d n None in
    let m = reached_once s k n (mode_at s c).home (k.home_there c d) r in
    let e : One (of_owner s None i) ≡ 0 = ap (λ x. One (same_owner x None)) g in
    omega arith
