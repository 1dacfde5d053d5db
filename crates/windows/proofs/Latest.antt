-- The latest of what passes a test, with 0 for the rest.
use Rattle.std.proofs.Common.{◌≡◌, ℕ, max, Bool, true, false, cond, List, [], ◌∷◌, map, filter, fold, refl, ap, ◌∙◌, arith}
use Rattle.std.proofs.lemmas.Bool.Decides.{nat_tests}

-- nothing is later than 0
max_none : (a : ℕ) → max a 0 ≡ a
max_none a = grind (arith, nat_tests)

latest_step :
    {T : Type 0} (f : T → ℕ) (b : Bool) (a : ℕ) (x : T) (xs : List T)
    → fold max (max a (cond b (f x) 0)) (map f xs) ≡ fold max a (map f (cond b (x ∷ xs) xs))
latest_step f true a x xs = refl
latest_step f false a x xs = ap (λ n. fold max n (map f xs)) (max_none a)

pub latest_some :
    {T : Type 0} (p : T → Bool) (f : T → ℕ) (a : ℕ) (xs : List T)
    → fold max a (map (λ x. cond (p x) (f x) 0) xs) ≡ fold max a (map f (filter p xs))
latest_some p f a [] = refl
latest_some p f a (x ∷ xs) = latest_some p f (max a (cond (p x) (f x) 0)) xs ∙ latest_step f (p x) a x (filter p xs)
