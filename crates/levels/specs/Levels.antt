-- The levels of modules: the walk from a program down through its modules, their modes, and the programs that refine these.
use Rattle.std.specs.Prelude.{◌≡◌, ℕ, zero, suc, ◌+◌, ◌<◌, Bool, true, false, cond, ◌&&◌, ◌||◌, length, Some, None, Option, ◌==◌, nat_eq}
use Rattle.tables.specs.Stations.{Station}
use Rattle.lookups.specs.Lookups.{module_at, mode_at}
use Rattle.lookups.specs.Searches.{any, total}

-- Two owners are the same.
abbrev pub same_owner : Option ℕ → Option ℕ → Bool
same_owner None None = true
same_owner None (Some b) = false
same_owner (Some a) None = false
same_owner (Some a) (Some b) = a == b

-- The walk from the program of an owner, none for the top program, meets module i within n levels.
unfoldable pub meets : Station → ℕ → ℕ → Option ℕ → Bool
meets s i zero o = false
meets s i (suc n) o =
    any (λ m. same_owner (module_at s m).owner o && (m == i || any (λ d. ((mode_at s d).home == m) && meets s i n (Some d)) (length s.modes)))
    (length s.modules)

-- It is module m itself, or met in the program of one of m's modes.
abbrev pub meets_module : Station → ℕ → ℕ → ℕ → Bool
meets_module s i n m = m == i || any (λ d. ((mode_at s d).home == m) && meets s i n (Some d)) (length s.modes)

-- Going up from module i, the program of an owner is reached within n levels.
pub data Reach (s : Station) (o : Option ℕ) : ℕ → ℕ → Type 0 where
  within : (n i : ℕ) → (module_at s i).owner ≡ o → Reach s o (suc n) i
  under : (n i d : ℕ) → (module_at s i).owner ≡ Some d → Reach s o n (mode_at s d).home → Reach s o (suc n) i

-- A module's level is at most n: going up, the top program is reached.
abbrev pub Level : Station → ℕ → ℕ → Type 0
Level s n i = Reach s None n i

-- How often the walk down so many levels from the program of an owner meets module i.
unfoldable pub meetings : Station → ℕ → ℕ → Option ℕ → ℕ
meetings s i zero o = 0
meetings s i (suc n) o =
    total (λ m. same_owner (module_at s m).owner o)
    (λ m. cond (m == i) 1 0 + total (λ d. nat_eq (mode_at s d).home m) (λ d. meetings s i n (Some d)) (length s.modes))
    (length s.modules)

-- A mode, or the owner of its module, and so on up: the modes above a mode.
pub data Over (s : Station) (e : ℕ) : ℕ → Type 0 where
  itself : Over s e e
  owner : (d o : ℕ) → d < length s.modes → (module_at s (mode_at s d).home).owner ≡ Some o → Over s e o → Over s e d
