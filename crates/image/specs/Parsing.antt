-- What looking through the cells of an image finds.
use Rattle.std.specs.Prelude.{◌≡◌, ℕ, List, take, is_none, Some, None, Option}
use Rattle.std.specs.List.{position_from}
use Rattle.fault.specs.declared.Fault.{Fault}
use Rattle.fault.specs.declared.Fault.TheVariants.{NoImage}
use Rattle.code.specs.declared.instructions.Word.{Word}
use Rattle.image.specs.Images.{known}

-- Every cell is a word, and those that a store can hold are at hand.
pub record Parsed (os : List (Option Word)) (ws : List Word) : Type 0 where
  pub all : position_from is_none 0 os ≡ None
  pub front : ws ≡ take 4096 (known os)

-- A cell is no word, and the first such one is named.
abbrev pub Stopped : List (Option Word) → Fault → Type 0
Stopped os f = (p : ℕ) × (position_from is_none 0 os ≡ Some p) × (f ≡ NoImage p)
