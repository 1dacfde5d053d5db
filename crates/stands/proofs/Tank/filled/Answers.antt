use Rattle.std.proofs.Common.{rules, ◌≡◌, List, [], ◌∷◌, ℤ, pos, slice_index_or, of_calls, arith, length}
use Rattle.stands.proofs.Tank.filled.Goals as goal

-- A list of three, by its elements.
three :
    (xs : List ℤ) (x y z : ℤ) → length xs ≡ 3
    → slice_index_or xs 0 (pos 0) ≡ x → slice_index_or xs 1 (pos 0) ≡ y → slice_index_or xs 2 (pos 0) ≡ z
    → xs ≡ x ∷ y ∷ z ∷ []
three (a ∷ b ∷ c ∷ []) x y z n p q r = grind arith
three [] x y z n p q r = grind arith
three (a ∷ []) x y z n p q r = grind arith
three (a ∷ b ∷ []) x y z n p q r = grind arith
three (a ∷ b ∷ c ∷ d ∷ l) x y z n p q r = grind arith

pub returns : goal.returns
returns c =
    let ran = c.map.ensures.items.each in
    three c.map.result _ _ _ c.map.ensures.items.long
    (let first = ran.5 in search (rules, of_calls))
    (let second = ran.6.5 in search (rules, of_calls))
    (let third = ran.6.6.5 in search (rules, of_calls))
