-- Sums over the numbers below a bound.
use Rattle.std.proofs.Common.{◌≡◌, ℕ, zero, suc, ◌+◌, ◌<◌, ◌≤◌, Bool, true, false, cond, eqb, sym, refl, inl, inr, arith}
use Rattle.std.proofs.lemmas.Bool.{eq-eqb, ne_eqb, cases_eq}
use Rattle.std.proofs.lemmas.Bool.Decides.{nat_tests}
use Rattle.lookups.specs.Searches.{total}

abbrev pub One : Bool → ℕ
One b = cond b 1 0

pub total_same : (p : ℕ → Bool) (f g : ℕ → ℕ) (n : ℕ) → ((k : ℕ) → k < n → f k ≡ g k) → total p f n ≡ total p g n
unfolding total
total_same p f g zero h = refl
total_same p f g (suc n) h = let a = total_same p f g n (λ k l. h k (omega arith)) in let b = h n (omega arith) in cc

pub total_plus : (p : ℕ → Bool) (f g : ℕ → ℕ) (n : ℕ) → total p (λ k. f k + g k) n ≡ total p f n + total p g n
unfolding total
total_plus p f g zero = refl
total_plus p f g (suc n) =
    let a = total_plus p f g n in
    elim (p n) as (λ b. total p (λ k. f k + g k) n + cond b (f n + g n) 0 ≡ (total p f n + cond b (f n) 0) + (total p g n + cond b (g n) 0)) [
      | true ↦ omega arith
      | false ↦ omega arith
    ]

pub total_none : (p : ℕ → Bool) (f : ℕ → ℕ) (n : ℕ) → ((k : ℕ) → k < n → f k ≡ 0) → total p f n ≡ 0
unfolding total
total_none p f zero h = refl
total_none p f (suc n) h =
    let a = total_none p f n (λ k l. h k (omega arith)) in
    let b = h n (omega arith) in
    elim (p n) as (λ b. total p f n + cond b (f n) 0 ≡ 0) [ true ↦ omega arith | false ↦ omega arith ]

-- a sum that is 1 at one number alone
total_past : (p : ℕ → Bool) (i n : ℕ) → n ≤ i → total p (λ k. One (eqb k i)) n ≡ 0
total_past p i n l = total_none p (λ k. One (eqb k i)) n (λ k h. grind (arith, nat_tests))

pub total_one : (p : ℕ → Bool) (i n : ℕ) → i < n → total p (λ k. One (eqb k i)) n ≡ One (p i)
unfolding total
total_one p i zero l = absurd (omega arith)
total_one p i (suc n) l =
    elim (cases_eq i n) [
      | inl e ↦
          let a = total_past p i n (omega arith) in
          let b = eq-eqb n i (sym e) in
          let c : cond (p n) (One (eqb n i)) 0 ≡ One (p i) = cc in
          omega arith
      | inr h ↦
          let a = total_one p i n (omega arith) in
          let b = ne_eqb n i (λ e. h (sym e)) in
          let c : One (eqb n i) ≡ 0 = cc in
          elim (p n) as (λ b. total p (λ k. One (eqb k i)) n + cond b (One (eqb n i)) 0 ≡ One (p i)) [ true ↦ omega arith | false ↦ omega arith ]
    ]
