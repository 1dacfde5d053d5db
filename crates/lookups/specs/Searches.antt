-- Searches over the numbers below a bound.
use Rattle.std.specs.Prelude.{ℕ, zero, suc, ◌+◌, min, max, Bool, false, cond, not, ◌||◌, Option}
use Rattle.std.specs.List.{find, list_all, range_with_len}

-- The least number below n that fails a test.
abbrev pub first_failing : (ℕ → Bool) → ℕ → Option ℕ
first_failing p n = find (λ k. not (p k)) (range_with_len 0 n)

-- Some number below n passes a test.
unfoldable pub any : (ℕ → Bool) → ℕ → Bool
any p zero = false
any p (suc n) = any p n || p n

-- Every number below n passes a test.
abbrev pub every : (ℕ → Bool) → ℕ → Bool
every p n = list_all p (range_with_len 0 n)

-- The largest of a and f at the numbers below n that pass a test.
unfoldable pub largest : (ℕ → Bool) → (ℕ → ℕ) → ℕ → ℕ → ℕ
largest p f a zero = a
largest p f a (suc n) = cond (p n) (max (largest p f a n) (f n)) (largest p f a n)

-- The smallest of a and f at the numbers below n that pass a test.
unfoldable pub smallest : (ℕ → Bool) → (ℕ → ℕ) → ℕ → ℕ → ℕ
smallest p f a zero = a
smallest p f a (suc n) = cond (p n) (min (smallest p f a n) (f n)) (smallest p f a n)

-- The sum of f at the numbers below n that pass a test.
unfoldable pub total : (ℕ → Bool) → (ℕ → ℕ) → ℕ → ℕ
total p f zero = 0
total p f (suc n) = total p f n + cond (p n) (f n) 0
