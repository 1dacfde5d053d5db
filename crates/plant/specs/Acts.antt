-- What is done to a plant, and what it answers.
use Rattle.std.specs.Prelude.{ℕ, ℤ}

-- An output is driven to a value, or a tick goes by.
pub data Act : Type 0 where
  Drive : ℕ → ℤ → Act
  Pass : Act

-- What the sensors would answer and the outputs would show, by number.
pub record Answers : Type 0 where
  pub sense : ℕ → ℤ
  pub shown : ℕ → ℤ
