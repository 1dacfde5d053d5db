-- Bytes by their hexadecimal digits.
use Rattle.std.specs.Prelude.{◌≡◌, ℕ, ◌+◌, ◌-◌, ◌*◌, Bool, cond, ◌&&◌, List, [], ◌∷◌, Some, None, Option, nat_le}
use Rattle.command.specs.declared.Misuse.{Misuse}
use Rattle.command.specs.declared.Misuse.TheVariants.{Hex, NoMemory}

-- A letter lies between two others.
abbrev pub from_to : ℕ → ℕ → ℕ → Bool
from_to low high letter = nat_le low letter && nat_le letter high

-- The value of a digit: 0 to 9, then a to f or A to F.
abbrev pub digit_value : ℕ → Option ℕ
digit_value letter =
    cond (from_to 48 57 letter) (Some (letter - 48))
    (cond (from_to 97 102 letter) (Some (letter - 97 + 10))
    (cond (from_to 65 70 letter) (Some (letter - 65 + 10))
    None))

-- Two digits make a byte, the larger part first.
abbrev pub pair_of : Option ℕ → Option ℕ → Option ℕ
pair_of None low = None
pair_of (Some h) None = None
pair_of (Some h) (Some l) = Some (h * 16 + l)

-- The byte of two letters, if both are digits.
abbrev pub pair_value : ℕ → ℕ → Option ℕ
pair_value high low = pair_of (digit_value high) (digit_value low)

-- A byte before others, if all are there.
abbrev pub joined : Option ℕ → Option (List ℕ) → Option (List ℕ)
joined None more = None
joined (Some b) None = None
joined (Some b) (Some bs) = Some (b ∷ bs)

-- The bytes that letters spell, if they are digits and of an even number.
unfoldable pub bytes_spelt : List ℕ → Option (List ℕ)
bytes_spelt [] = Some []
bytes_spelt (a ∷ []) = None
bytes_spelt (a ∷ b ∷ rest) = joined (pair_value a b) (bytes_spelt rest)

-- Letters are refused only where they spell nothing, or where there is no memory for what they spell.
abbrev pub SpellsNone : List ℕ → Misuse → Type 0
SpellsNone letters Hex = bytes_spelt letters ≡ None
SpellsNone letters NoMemory = Unit {0}
SpellsNone letters why = ⊥
