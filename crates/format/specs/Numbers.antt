-- Numbers of two and four bytes, the larger part first.
use Rattle.std.specs.Prelude.{ℕ, ◌+◌, ◌*◌, ◌/◌, ◌%◌, List, [], ◌∷◌, ℤ, slice_index}
use Rattle.std.specs.Int.{w32}
use Rattle.std.proofs.Common.{of_z, to_z}

-- The byte at a place.
abbrev pub byte_at : List ℕ → ℕ → ℕ
byte_at bs k = slice_index bs k

-- The number without sign in the two bytes from a place on.
abbrev pub half_at : List ℕ → ℕ → ℕ
half_at bs k = byte_at bs k * 256 + byte_at bs (k + 1)

-- The number with sign, in two's complement, in the four bytes from a place on.
abbrev pub word_at : List ℕ → ℕ → ℤ
word_at bs k = to_z w32 (byte_at bs k * 16777216 + byte_at bs (k + 1) * 65536 + byte_at bs (k + 2) * 256 + byte_at bs (k + 3))

-- The two bytes of a number without sign.
abbrev pub half_bytes : ℕ → List ℕ
half_bytes n = (n / 256 % 256) ∷ (n % 256) ∷ []

-- The four bytes of a number with sign.
abbrev pub word_bytes : ℤ → List ℕ
word_bytes z = (of_z w32 z / 16777216 % 256) ∷ (of_z w32 z / 65536 % 256) ∷ (of_z w32 z / 256 % 256) ∷ (of_z w32 z % 256) ∷ []
