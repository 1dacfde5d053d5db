-- Lists by number.
use Rattle.std.specs.Prelude.{ℕ, List, map}
use Rattle.std.specs.List.{range_with_len}

-- The list of f at the numbers below n.
unfoldable pub tab : {A : Type 0} → ℕ → (ℕ → A) → List A
tab n f = map f (range_with_len 0 n)
