-- The first of a list that passes a test.
use Rattle.std.proofs.Common.{◌≡◌, ℕ, zero, suc, ◌+◌, ◌<◌, ltb, Bool, true, false, cond, List, [], ◌∷◌, length, get_or, Some, None, Option, sym, refl, ap, ◌∙◌, arith}
use Rattle.std.proofs.lemmas.Bool.{cond-true, cond-false, lt-ltb}
use Rattle.std.proofs.lemmas.List.Sums.{position_or_len_is}
use Rattle.std.proofs.lemmas.Iterator.Adapters.{position_from-zero}
use Rattle.std.specs.List.{position_from, position_or_len}

-- none at all: neither here nor after
pub none_passed : (b : Bool) (o : Option ℕ) (k : ℕ) → cond b (Some k) o ≡ None → (b ≡ false) × (o ≡ None)
none_passed true o k e = absurd cc
none_passed false o k e = (refl, e)

-- where none passes, each fails
pub each_fails : {X : Type 0} (p : X → Bool) (k : ℕ) (xs : List X) (d : X) → position_from p k xs ≡ None → (j : ℕ) → j < length xs → p (get_or xs j d) ≡ false
each_fails p k [] d e j h = absurd (omega arith)
each_fails p k (x ∷ xs) d e zero h = (none_passed (p x) (position_from p (k + 1) xs) k e).0
each_fails p k (x ∷ xs) d e (suc j) h = each_fails p (k + 1) xs d (none_passed (p x) (position_from p (k + 1) xs) k e).1 j (omega arith)

-- where each fails, none passes
pub none_passes : {X : Type 0} (p : X → Bool) (k : ℕ) (xs : List X) (d : X) → ((j : ℕ) → j < length xs → p (get_or xs j d) ≡ false) → position_from p k xs ≡ None
none_passes p k [] d all = refl
none_passes p k (x ∷ xs) d all = cond-false (p x) _ _ (all 0 (omega arith)) ∙ none_passes p (k + 1) xs d (λ j h. all (suc j) (omega arith))

-- the first that passes, where all before it fail
pub first_passes : {X : Type 0} (p : X → Bool) (xs : List X) (d : X) (j : ℕ) → j < length xs → ((i : ℕ) → i < j → p (get_or xs i d) ≡ false) → p (get_or xs j d) ≡ true → position_from p 0 xs ≡ Some j
first_passes p xs d j h all e =
    let at : position_or_len p xs ≡ j = position_or_len_is p xs j d (omega arith) all (λ _. e) in
    sym (position_from-zero p xs) ∙ ap (λ m. cond (ltb m (length xs)) (Some m) None) at ∙ cond-true _ _ _ (lt-ltb j (length xs) h)
