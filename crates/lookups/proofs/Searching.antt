-- Searches one step on, stopped early, and what they tell.
use Rattle.std.proofs.Common.{◌≡◌, ℕ, zero, suc, ◌+◌, ◌<◌, ◌≤◌, Bool, true, false, cond, not, ◌&&◌, ◌||◌, [], ◌∷◌, ◌++◌, Some, None, sym, refl, ap, ◌∙◌, inl, inr, add-one, arith}
use Rattle.std.proofs.lemmas.List.Folds.{find-append, list_all-append}
use Rattle.std.specs.Option.{option_or}
use Rattle.std.proofs.lemmas.Bool.{and_parts, or_left, or_right, or_cases, cases_Bool, cases_eq, cases_order}
use Rattle.std.specs.List.{find, list_all, range_with_len}
use Rattle.lookups.specs.Searches.{first_failing, any, every, largest, smallest}

-- first_failing: none fails, or one that is named while all before it pass
find_none :
    (p : ℕ → Bool) (a n : ℕ) → find (λ k. not (p k)) (range_with_len a n) ≡ None → (k : ℕ) → a ≤ k → k < a + n → p k ≡ true
find_none p a zero e k l h = absurd (omega arith)
find_none p a (suc n) e k l h =
    elim (cases_Bool (p a)) [
      | inl t ↦ elim (cases_eq k a) [
        | inl s ↦ rw s t
        | inr o ↦ find_none p (a + 1) n (cc) k (omega arith) (omega arith)
      ]
      | inr f ↦ absurd (cc)
    ]

pub first_none_all : (p : ℕ → Bool) (n : ℕ) → first_failing p n ≡ None → (k : ℕ) → k < n → p k ≡ true
first_none_all p n e k l = find_none p 0 n e k (omega arith) (omega arith)

none_found :
    (p : ℕ → Bool) (a n : ℕ) → ((k : ℕ) → a ≤ k → k < a + n → p k ≡ true) → find (λ k. not (p k)) (range_with_len a n) ≡ None
none_found p a zero h = refl
none_found p a (suc n) h =
    let t = h a (omega arith) (omega arith) in
    let rest = none_found p (a + 1) n (λ k l m. h k (omega arith) (omega arith)) in
    cc

pub first_none_from : (p : ℕ → Bool) (n : ℕ) → ((k : ℕ) → k < n → p k ≡ true) → first_failing p n ≡ None
first_none_from p n h = none_found p 0 n (λ k l m. h k (omega arith))

find_some :
    (p : ℕ → Bool) (a n k : ℕ) → find (λ k. not (p k)) (range_with_len a n) ≡ Some k
    → (a ≤ k) × (k < a + n) × (p k ≡ false) × ((j : ℕ) → a ≤ j → j < k → p j ≡ true)
find_some p a zero k e = absurd (cc)
find_some p a (suc n) k e =
    elim (cases_Bool (p a)) [
      | inr f ↦ let same : a ≡ k = cc in (omega arith, omega arith, rw (← same) f, λ j l h. absurd (omega arith))
      | inl t ↦
          let q = find_some p (a + 1) n k (cc) in
          (omega arith, omega arith, q.2, λ j l h. elim (cases_eq j a) [ inl s ↦ rw s t | inr o ↦ q.3 j (omega arith) h ])
    ]

pub first_some_all : (p : ℕ → Bool) (n k : ℕ) → first_failing p n ≡ Some k → (k < n) × (p k ≡ false) × ((j : ℕ) → j < k → p j ≡ true)
first_some_all p n k e = let q = find_some p 0 n k e in (omega (arith, q.1), q.2, λ j l. q.3 j (omega arith) l)

some_found :
    (p : ℕ → Bool) (a n k : ℕ) → a ≤ k → k < a + n → p k ≡ false → ((j : ℕ) → a ≤ j → j < k → p j ≡ true)
    → find (λ k. not (p k)) (range_with_len a n) ≡ Some k
some_found p a zero k l m f h = absurd (omega arith)
some_found p a (suc n) k l m f h =
    elim (cases_eq k a) [
      | inl s ↦ let here : p a ≡ false = rw (← s) f in cc
      | inr o ↦
          let t = h a (omega arith) (omega arith) in
          let rest = some_found p (a + 1) n k (omega arith) (omega arith) f (λ j l m. h j (omega arith) m) in
          cc
    ]

pub first_some_from : (p : ℕ → Bool) (n k : ℕ) → k < n → p k ≡ false → ((j : ℕ) → j < k → p j ≡ true) → first_failing p n ≡ Some k
first_some_from p n k l f h = some_found p 0 n k (omega arith) (omega arith) f (λ j _ m. h j m)

-- any
pub any_none : (p : ℕ → Bool) → any p 0 ≡ false
unfolding any
any_none p = refl

pub any_more : (p : ℕ → Bool) (n : ℕ) → any p (n + 1) ≡ (any p n || p n)
unfolding any
any_more p n = rw add-one

pub any_at : (p : ℕ → Bool) (i n : ℕ) → i < n → p i ≡ true → any p n ≡ true
unfolding any
any_at p i zero l h = absurd (omega arith)
any_at p i (suc n) l h =
    elim (cases_order i n) [
      | inl s ↦ or_right (any p n) (p n) (rw (← s) h)
      | inr o ↦ elim o [ inl b ↦ or_left (any p n) (p n) (any_at p i n b h) | inr b ↦ absurd (omega arith) ]
    ]

pub any_stop : (p : ℕ → Bool) (i n : ℕ) → any p i ≡ false → i < n → p i ≡ true → true ≡ any p n
any_stop p i n e l h = sym (any_at p i n l h)

pub any_some : (p : ℕ → Bool) (n : ℕ) → any p n ≡ true → (k : ℕ) × (k < n) × (p k ≡ true)
unfolding any
any_some p zero e = absurd (cc)
any_some p (suc n) e =
    elim (or_cases (any p n) (p n) e) [
      | inl f ↦ let q = any_some p n f in (q.0, omega (arith, q.1), q.2)
      | inr f ↦ (n, omega arith, f)
    ]

-- every
range_all : (p : ℕ → Bool) (a n : ℕ) → list_all p (range_with_len a n) ≡ true → (k : ℕ) → a ≤ k → k < a + n → p k ≡ true
range_all p a zero e k l h = absurd (omega arith)
range_all p a (suc n) e k l h =
    let q = and_parts (p a) (list_all p (range_with_len (a + 1) n)) e in
    elim (cases_eq k a) [ inl s ↦ rw s q.0 | inr o ↦ range_all p (a + 1) n q.1 k (omega arith) (omega arith) ]

pub every_all : (p : ℕ → Bool) (n : ℕ) → every p n ≡ true → (k : ℕ) → k < n → p k ≡ true
every_all p n e k l = range_all p 0 n e k (omega arith) (omega arith)

-- searches that agree where their test passes
pub largest_same :
    (p : ℕ → Bool) (f g : ℕ → ℕ) (a n : ℕ) → ((j : ℕ) → j < n → p j ≡ true → f j ≡ g j) → largest p f a n ≡ largest p g a n
unfolding largest
largest_same p f g a zero h = refl
largest_same p f g a (suc n) h =
    let rest = largest_same p f g a n (λ j l e. h j (omega arith) e) in
    elim (cases_Bool (p n)) [ inl t ↦ let here = h n (omega arith) t in cc | inr t ↦ cc ]

pub smallest_same :
    (p : ℕ → Bool) (f g : ℕ → ℕ) (a n : ℕ) → ((j : ℕ) → j < n → p j ≡ true → f j ≡ g j) → smallest p f a n ≡ smallest p g a n
unfolding smallest
smallest_same p f g a zero h = refl
smallest_same p f g a (suc n) h =
    let rest = smallest_same p f g a n (λ j l e. h j (omega arith) e) in
    elim (cases_Bool (p n)) [ inl t ↦ let here = h n (omega arith) t in cc | inr t ↦ cc ]

-- one number more in a search over the first numbers
range_more : (a n : ℕ) → range_with_len a (suc n) ≡ range_with_len a n ++ ((a + n) ∷ [])
range_more a zero = let none : a ≡ a + 0 = omega arith in ap (λ k. k ∷ []) none
range_more a (suc n) = let next : (a + 1) + n ≡ a + suc n = omega arith in ap (λ ks. a ∷ ks) (range_more (a + 1) n ∙ ap (λ k. range_with_len (a + 1) n ++ (k ∷ [])) next)

counted : (n : ℕ) → range_with_len 0 (suc n) ≡ range_with_len 0 n ++ (n ∷ [])
counted n = let same : 0 + n ≡ n = omega arith in range_more 0 n ∙ ap (λ k. range_with_len 0 n ++ (k ∷ [])) same

pub first_more : (p : ℕ → Bool) (n : ℕ) → first_failing p (suc n) ≡ option_or (first_failing p n) (cond (p n) None (Some n))
first_more p n =
    ap (find (λ k. not (p k))) (counted n)
    ∙ find-append (λ k. not (p k)) (range_with_len 0 n) (n ∷ [])
    ∙ ap (option_or (first_failing p n)) (here (p n))
  where
    here : (b : Bool) → cond (not b) (Some n) None ≡ cond b None (Some n)
    here true = refl
    here false = refl

pub every_more : (p : ℕ → Bool) (n : ℕ) → every p (suc n) ≡ (every p n && p n)
every_more p n =
    ap (list_all p) (counted n)
    ∙ list_all-append p (range_with_len 0 n) (n ∷ [])
    ∙ ap (λ b. every p n && b) (alone (p n))
  where
    alone : (b : Bool) → (b && true) ≡ b
    alone true = refl
    alone false = refl
