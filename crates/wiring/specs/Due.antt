-- Which sensors are sensed and which actuators driven at an instant.
use Rattle.std.specs.Prelude.{ℕ, zero, suc, ◌%◌, Bool, true, false, cond, ◌&&◌, List, [], ◌∷◌, ◌++◌, ℤ, pos, ◌==◌, nat_lt, slice_index_or, slice_set}
use Rattle.plant.specs.Acts.{Act, Drive}
use Rattle.tables.specs.declared.records.Communicator.{Communicator}
use Rattle.tables.specs.declared.records.Use.{Use}
use Rattle.tables.specs.declared.records.Use.TheVariants.{Plain, Sensor, Actuator, Unlisted}

-- The communicator of a number; where there is none, a plain one of no period.
abbrev pub communicator_at : List Communicator → ℕ → Communicator
communicator_at cs i = slice_index_or cs i (record { period = 0; kind = Plain; initial = pos 0 })

-- A period divides the clock.
abbrev pub is_instant : ℕ → ℕ → Bool
is_instant period clock = nat_lt 0 period && clock % period == 0

-- Two uses are the same.
abbrev pub is_use : Use → Use → Bool
is_use Plain Plain = true
is_use Sensor Sensor = true
is_use Actuator Actuator = true
is_use (Unlisted a) (Unlisted b) = a == b
is_use _ _ = false

-- A communicator has a use and its period divides the clock.
abbrev pub due : Use → List Communicator → ℕ → ℕ → Bool
due kind cs clock i = is_use (communicator_at cs i).kind kind && is_instant (communicator_at cs i).period clock

-- The values after each due sensor below n was sensed.
unfoldable pub sensed : (ℕ → ℤ) → List Communicator → ℕ → List ℤ → ℕ → List ℤ
sensed answer cs clock vs zero = vs
sensed answer cs clock vs (suc n) =
    cond (due Sensor cs clock n) (slice_set (sensed answer cs clock vs n) n (answer n)) (sensed answer cs clock vs n)

-- The drives of the due actuators below n, ascending.
unfoldable pub drives : List Communicator → ℕ → List ℤ → ℕ → List Act
drives cs clock vs zero = []
drives cs clock vs (suc n) = drives cs clock vs n ++ cond (due Actuator cs clock n) (Drive n (slice_index_or vs n (pos 0)) ∷ []) []
