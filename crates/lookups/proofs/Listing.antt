-- A search in a list is a search over the numbers below its length.
use Rattle.std.proofs.Common.{◌≡◌, ℕ, zero, suc, ◌+◌, ◌<◌, ◌≤◌, min, max, Bool, true, false, cond, ◌&&◌, ◌||◌, List, [], ◌∷◌, map, length, get_or, take, filter, fold, refl, sym, ap, ◌∙◌, arith}
use Rattle.std.proofs.lemmas.Bool.{and_parts}
use Rattle.std.proofs.lemmas.List.FromFn.{fill_by_all, length-enumerate_from, get_or-enumerate_from}
use Rattle.std.proofs.lemmas.List.Sums.{sum_by-cons}
use Rattle.std.proofs.lemmas.List.{length-take-le, get_or-take}
use Rattle.std.specs.List.{list_any, list_all, count_by, range_with_len, enumerate_from}
use Rattle.lookups.proofs.Searching.{any_some}
use Rattle.lookups.specs.Searches.{any, every, largest, smallest, total}

-- the first number apart from the others
any_first : (p : ℕ → Bool) (n : ℕ) → any p (suc n) ≡ (p 0 || any (λ j. p (suc j)) n)
unfolding any
any_first p zero = elim (p 0) as (λ b. (false || b) ≡ (b || false)) [ true ↦ refl | false ↦ refl ]
any_first p (suc n) =
    ap (λ b. b || p (suc n)) (any_first p n)
    ∙ elim (p 0) as (λ b. ((b || any (λ j. p (suc j)) n) || p (suc n)) ≡ (b || (any (λ j. p (suc j)) n || p (suc n)))) [ true ↦ refl | false ↦ refl ]

largest_first :
    (p : ℕ → Bool) (f : ℕ → ℕ) (a n : ℕ)
    → largest p f a (suc n) ≡ largest (λ j. p (suc j)) (λ j. f (suc j)) (cond (p 0) (max a (f 0)) a) n
unfolding largest
largest_first p f a zero = refl
largest_first p f a (suc n) = ap (λ l. cond (p (suc n)) (max l (f (suc n))) l) (largest_first p f a n)

smallest_first :
    (p : ℕ → Bool) (f : ℕ → ℕ) (a n : ℕ)
    → smallest p f a (suc n) ≡ smallest (λ j. p (suc j)) (λ j. f (suc j)) (cond (p 0) (min a (f 0)) a) n
unfolding smallest
smallest_first p f a zero = refl
smallest_first p f a (suc n) = ap (λ l. cond (p (suc n)) (min l (f (suc n))) l) (smallest_first p f a n)

total_first : (p : ℕ → Bool) (f : ℕ → ℕ) (n : ℕ) → total p f (suc n) ≡ cond (p 0) (f 0) 0 + total (λ j. p (suc j)) (λ j. f (suc j)) n
unfolding total
total_first p f zero = omega arith
total_first p f (suc n) = omega (arith, total_first p f n)

pub any_list : {T : Type 0} (p : T → Bool) (d : T) (xs : List T) → list_any p xs ≡ any (λ j. p (get_or xs j d)) (length xs)
unfolding any
any_list p d [] = refl
any_list p d (x ∷ xs) = ap (λ b. p x || b) (any_list p d xs) ∙ sym (any_first (λ j. p (get_or (x ∷ xs) j d)) (length xs))

-- a search below a number asks only below it
any_below : (p q : ℕ → Bool) (n : ℕ) → ((k : ℕ) → k < n → p k ≡ q k) → any p n ≡ any q n
unfolding any
any_below p q zero h = refl
any_below p q (suc n) h =
    let rest = any_below p q n (λ k l. h k (omega arith)) in
    let here = h n (omega arith) in
    cc

-- a search among the first items
pub any_front : {T : Type 0} (p : T → Bool) (d : T) (xs : List T) (n : ℕ) → n ≤ length xs → list_any p (take n xs) ≡ any (λ j. p (get_or xs j d)) n
any_front p d xs n h =
    any_list p d (take n xs)
    ∙ ap (any (λ j. p (get_or (take n xs) j d))) (length-take-le n xs h)
    ∙ any_below (λ j. p (get_or (take n xs) j d)) (λ j. p (get_or xs j d)) n (λ k l. ap p (get_or-take n xs k d l))

-- a search among the items with their numbers
pub any_numbered : {T : Type 0} (p : ℕ → T → Bool) (d : T) (xs : List T) → list_any (λ e. p e.0 e.1) (enumerate_from 0 xs) ≡ any (λ j. p j (get_or xs j d)) (length xs)
any_numbered p d xs =
    any_list (λ e. p e.0 e.1) (0, d) (enumerate_from 0 xs)
    ∙ ap (any (λ j. let e = get_or (enumerate_from 0 xs) j (0, d) in p e.0 e.1)) (length-enumerate_from 0 xs)
    ∙ any_below (λ j. let e = get_or (enumerate_from 0 xs) j (0, d) in p e.0 e.1) (λ j. p j (get_or xs j d)) (length xs)
    (λ k l. let same : 0 + k ≡ k = omega arith in ap (λ e. p e.0 e.1) (get_or-enumerate_from 0 xs k (0, d) l) ∙ ap (λ j. p j (get_or xs k d)) same)

-- a test of what items are mapped to
all_mapped : {X Y : Type 0} (p : Y → Bool) (f : X → Y) (xs : List X) → list_all p (map f xs) ≡ list_all (λ x. p (f x)) xs
all_mapped p f [] = refl
all_mapped p f (x ∷ xs) = ap (λ b. p (f x) && b) (all_mapped p f xs)

pub every_list : {T : Type 0} (p : T → Bool) (d : T) (xs : List T) → list_all p xs ≡ every (λ j. p (get_or xs j d)) (length xs)
every_list p d xs =
    ap (list_all p) (fill_by_all (λ j. get_or xs j d) xs (length xs) d refl (λ j l. refl))
    ∙ all_mapped p (λ j. get_or xs j d) (range_with_len 0 (length xs))

-- an item of a list that passes, by its number
pub any_found : {T : Type 0} (p : T → Bool) (d : T) (xs : List T) → list_any p xs ≡ true → (k : ℕ) × (k < length xs) × (p (get_or xs k d) ≡ true)
any_found p d xs e = any_some (λ j. p (get_or xs j d)) (length xs) (sym (any_list p d xs) ∙ e)

-- all items of a list pass
pub all_at : {T : Type 0} (p : T → Bool) (d : T) (xs : List T) → list_all p xs ≡ true → (k : ℕ) → k < length xs → p (get_or xs k d) ≡ true
all_at p d [] e k l = absurd (omega arith)
all_at p d (x ∷ xs) e zero l = (and_parts (p x) (list_all p xs) e).0
all_at p d (x ∷ xs) e (suc k) l = all_at p d xs (and_parts (p x) (list_all p xs) e).1 k (omega arith)

-- one step of a fold over what a test lets through
filtered_step :
    {T : Type 0} (h : ℕ → ℕ → ℕ) (f : T → ℕ) (b : Bool) (a : ℕ) (x : T) (xs : List T)
    → fold h a (map f (cond b (x ∷ xs) xs)) ≡ fold h (cond b (h a (f x)) a) (map f xs)
filtered_step h f true a x xs = refl
filtered_step h f false a x xs = refl

pub largest_list :
    {T : Type 0} (p : T → Bool) (f : T → ℕ) (d : T) (a : ℕ) (xs : List T)
    → fold max a (map f (filter p xs)) ≡ largest (λ j. p (get_or xs j d)) (λ j. f (get_or xs j d)) a (length xs)
unfolding largest
largest_list p f d a [] = refl
largest_list p f d a (x ∷ xs) =
    filtered_step max f (p x) a x (filter p xs)
    ∙ largest_list p f d (cond (p x) (max a (f x)) a) xs
    ∙ sym (largest_first (λ j. p (get_or (x ∷ xs) j d)) (λ j. f (get_or (x ∷ xs) j d)) a (length xs))

pub smallest_list :
    {T : Type 0} (p : T → Bool) (f : T → ℕ) (d : T) (a : ℕ) (xs : List T)
    → fold min a (map f (filter p xs)) ≡ smallest (λ j. p (get_or xs j d)) (λ j. f (get_or xs j d)) a (length xs)
unfolding smallest
smallest_list p f d a [] = refl
smallest_list p f d a (x ∷ xs) =
    filtered_step min f (p x) a x (filter p xs)
    ∙ smallest_list p f d (cond (p x) (min a (f x)) a) xs
    ∙ sym (smallest_first (λ j. p (get_or (x ∷ xs) j d)) (λ j. f (get_or (x ∷ xs) j d)) a (length xs))

pub count_list : {T : Type 0} (p : T → Bool) (d : T) (xs : List T) → count_by p xs ≡ total (λ j. p (get_or xs j d)) (λ j. 1) (length xs)
unfolding total
count_list p d [] = refl
count_list p d (x ∷ xs) =
    sum_by-cons (λ y. cond (p y) 1 0) x xs
    ∙ ap (λ n. cond (p x) 1 0 + n) (count_list p d xs)
    ∙ sym (total_first (λ j. p (get_or (x ∷ xs) j d)) (λ j. 1) (length xs))
