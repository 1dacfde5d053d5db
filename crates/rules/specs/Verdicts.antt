-- The verdict on tables, and what it says of them.
use Rattle.std.specs.Prelude.{◌≡◌, ℕ, ◌<◌, true, false, List, [], ◌∷◌, length, Some, None, Ok, Err, Option, Result}
use Rattle.fault.specs.Refusals.{number}
use Rattle.fault.specs.declared.Fault.{Fault}
use Rattle.fault.specs.declared.Fault.TheVariants.{Broken}
use Rattle.fault.specs.declared.Rule.{Rule}
use Rattle.fault.specs.declared.Rule.TheVariants.{Fields, Hierarchy, Timing, Feeding, Window, Refinement, Writers}
use Rattle.tables.specs.Places.{place}
use Rattle.tables.specs.Stations.{Station, rows}
use Rattle.rules.specs.Rules.{holds}
use Rattle.lookups.specs.Searches.{first_failing}

-- How many records there are of all kinds.
abbrev pub record_count : Station → ℕ
record_count s = length (rows s)

-- A rule holds of the record that has a number over all kinds.
abbrev pub Holds : Station → Rule → ℕ → Type 0
Holds s r k = holds s r (place s k) ≡ true

-- Every rule holds at every record.
abbrev pub Keeps : Station → Type 0
Keeps s = (r : Rule) (k : ℕ) → k < record_count s → Holds s r k

-- The refusal for the first record that breaks a rule, if one does.
abbrev pub answer : Rule → Option ℕ → Result (Unit {0}) Fault
answer r None = Ok tt
answer r (Some k) = Err (Broken r k)

unfoldable pub checked : Station → Rule → Result (Unit {0}) Fault
checked s r = answer r (first_failing (λ k. holds s r (place s k)) (record_count s))

-- One result after another, up to the first refusal.
infixr 20 ◌then◌
abbrev pub ◌then◌ : {A B E : Type 0} → Result A E → (A → Result B E) → Result B E
Ok x then f = f x
Err e then f = Err e

-- The rules in the order of their numbers.
abbrev pub all_rules : List Rule
all_rules = Fields ∷ Hierarchy ∷ Timing ∷ Feeding ∷ Window ∷ Refinement ∷ Writers ∷ []

abbrev pub checks : Station → List Rule → Result (Unit {0}) Fault
checks s [] = Ok tt
checks s (r ∷ rs) = checked s r then λ _. checks s rs

-- A whole rule at a time, earliest record first.
abbrev pub verdict : Station → Result (Unit {0}) Fault
verdict s = checks s all_rules

-- A rule is broken at a record, none of smaller number anywhere, and this one at no earlier record.
pub record FirstBroken (s : Station) (r : Rule) (k : ℕ) : Type 0 where
  pub here : k < record_count s
  pub fails : holds s r (place s k) ≡ false
  pub smaller : (q : Rule) → number q < number r → (j : ℕ) → j < record_count s → Holds s q j
  pub earlier : (j : ℕ) → j < k → Holds s r j

-- Accepted exactly if every rule holds at every record, and refused exactly at the first that does not.
pub record Exactly (s : Station) (v : Result (Unit {0}) Fault) : Type 0 where
  pub accepted : v ≡ Ok tt → Keeps s
  pub accepts : Keeps s → v ≡ Ok tt
  pub refused : (r : Rule) (k : ℕ) → v ≡ Err (Broken r k) → FirstBroken s r k
  pub refuses : (r : Rule) (k : ℕ) → FirstBroken s r k → v ≡ Err (Broken r k)
