-- The walk through the levels, one level on.
use Rattle.std.proofs.Common.{◌≡◌, ℕ, zero, suc, ◌-◌, ◌<◌, false, ◌&&◌, length, Option, refl, sub-one, arith}
use Rattle.tables.specs.Stations.{Station}
use Rattle.levels.specs.Levels.{same_owner, meets, meets_module}
use Rattle.lookups.specs.Lookups.{module_at}
use Rattle.lookups.specs.Searches.{any}

pub meets_none : (s : Station) (i : ℕ) (o : Option ℕ) → meets s i 0 o ≡ false
unfolding meets
meets_none s i o = refl

pub meets_is :
    (s : Station) (i k : ℕ) (o : Option ℕ) → 0 < k
    → meets s i k o ≡ any (λ m. same_owner (module_at s m).owner o && meets_module s i (k - 1) m) (length s.modules)
unfolding meets
meets_is s i zero o h = absurd (omega arith)
meets_is s i (suc k) o h = rw sub-one
