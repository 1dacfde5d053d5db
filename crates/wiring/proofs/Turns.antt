-- Sensing and driving one communicator more.
use Rattle.std.proofs.Common.{◌≡◌, ℕ, ◌+◌, cond, List, [], ◌∷◌, ◌++◌, get_or, set, ℤ, pos, refl, add-one, append_assoc, rules}
use Rattle.std.proofs.lemmas.List.{set-get_or}
use Rattle.plant.specs.Acts.{Drive}
use Rattle.tables.specs.declared.records.Communicator.{Communicator}
use Rattle.tables.specs.declared.records.Use.TheVariants.{Sensor, Actuator}
use Rattle.wiring.specs.Due.{due, sensed, drives}

pub sensed_none : (f : ℕ → ℤ) (cs : List Communicator) (t : ℕ) (vs : List ℤ) → sensed f cs t vs 0 ≡ vs
unfolding sensed
sensed_none f cs t vs = refl

pub sensed_more :
    (f : ℕ → ℤ) (cs : List Communicator) (t : ℕ) (vs : List ℤ) (n : ℕ)
    → sensed f cs t vs (n + 1) ≡ cond (due Sensor cs t n) (set (sensed f cs t vs n) n (f n)) (sensed f cs t vs n)
unfolding sensed
sensed_more f cs t vs n = rw add-one

pub drives_none : (cs : List Communicator) (t : ℕ) (vs : List ℤ) → drives cs t vs 0 ≡ []
unfolding drives
drives_none cs t vs = refl

pub drives_more :
    (cs : List Communicator) (t : ℕ) (vs : List ℤ) (n : ℕ)
    → drives cs t vs (n + 1) ≡ drives cs t vs n ++ cond (due Actuator cs t n) (Drive n (get_or vs n (pos 0)) ∷ []) []
unfolding drives
drives_more cs t vs n = rw add-one

-- What each turn of the two loops needs.
pub ruleset turns = (sensed_none, sensed_more, set-get_or, drives_none, drives_more, append_assoc)
