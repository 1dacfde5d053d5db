-- The verdict names the first broken rule and its first record.
use Rattle.std.proofs.Common.{◌≡◌, ℕ, ◌<◌, Bool, true, false, ◌&&◌, ltb, ◌⊎◌, List, [], ◌∷◌, Some, None, Ok, Err, Option, Result, refl, ap, subst, inl, inr, arith}
use Rattle.fault.specs.Refusals.{number}
use Rattle.fault.specs.declared.Fault.{Fault}
use Rattle.fault.specs.declared.Fault.TheVariants.{Broken}
use Rattle.fault.specs.declared.Rule.{Rule}
use Rattle.fault.specs.declared.Rule.TheVariants.{Fields, Hierarchy, Timing, Feeding, Window, Refinement, Writers}
use Rattle.std.proofs.lemmas.Bool.{ltb-true, and_parts}
use Rattle.tables.specs.Places.{place}
use Rattle.tables.specs.Stations.{Station}
use Rattle.lookups.proofs.Searching.{first_none_all, first_none_from, first_some_all, first_some_from}
use Rattle.rules.specs.Rules.{holds}
use Rattle.rules.specs.Verdicts.{record_count, Holds, answer, checked, checks, all_rules, verdict, Exactly}

-- one rule
answer_ok : (r : Rule) (o : Option ℕ) → answer r o ≡ Ok tt → o ≡ None
answer_ok r None e = refl
answer_ok r (Some k) e = absurd (cc)

answer_err : (r q : Rule) (k : ℕ) (o : Option ℕ) → answer r o ≡ Err (Broken q k) → (r ≡ q) × (o ≡ Some k)
answer_err r q k None e = absurd (cc)
answer_err r q k (Some j) e = (cc, cc)

abbrev Passes : Station → Rule → Type 0
Passes s r = (k : ℕ) → k < record_count s → Holds s r k

ok_passes : (s : Station) (r : Rule) → checked s r ≡ Ok tt → Passes s r
unfolding checked
ok_passes s r e = first_none_all (λ k. holds s r (place s k)) (record_count s) (answer_ok r _ e)

passes_ok : (s : Station) (r : Rule) → Passes s r → checked s r ≡ Ok tt
unfolding checked
passes_ok s r h = ap (answer r) (first_none_from (λ k. holds s r (place s k)) (record_count s) h)

-- the record at which one rule is first broken
pub record Breaks (s : Station) (r : Rule) (k : ℕ) : Type 0 where
  pub here : k < record_count s
  pub fails : holds s r (place s k) ≡ false
  pub earlier : (j : ℕ) → j < k → Holds s r j

err_breaks : (s : Station) (r q : Rule) (k : ℕ) → checked s r ≡ Err (Broken q k) → (r ≡ q) × Breaks s r k
unfolding checked
err_breaks s r q k e =
    let a = answer_err r q k _ e in
    let b = first_some_all (λ k. holds s r (place s k)) (record_count s) k a.1 in
    (a.0, record { here = b.0; fails = b.1; earlier = b.2 })

breaks_err : (s : Station) (r : Rule) (k : ℕ) → Breaks s r k → checked s r ≡ Err (Broken r k)
unfolding checked
breaks_err s r k b = ap (answer r) (first_some_from (λ k. holds s r (place s k)) (record_count s) k b.here b.fails b.earlier)

-- rules in a list, their numbers ascending
data In (r : Rule) : List Rule → Type 0 where
  head : (rs : List Rule) → In r (r ∷ rs)
  tail : (q : Rule) (rs : List Rule) → In r rs → In r (q ∷ rs)

abbrev every_above : ℕ → List Rule → Bool
every_above n [] = true
every_above n (r ∷ rs) = ltb n (number r) && every_above n rs

abbrev Ascends : List Rule → Type 0
Ascends [] = Unit {0}
Ascends (r ∷ rs) = ((q : Rule) → In q rs → number r < number q) × Ascends rs

result_cases : (x : Result (Unit {0}) Fault) → (x ≡ Ok tt) ⊎ ((f : Fault) × (x ≡ Err f))
result_cases (Ok u) = inl refl
result_cases (Err f) = inr (f, refl)

all_ok : (s : Station) (rs : List Rule) → checks s rs ≡ Ok tt → (r : Rule) → In r rs → checked s r ≡ Ok tt
all_ok s [] e r i = elim i [ ]
all_ok s (q ∷ rs) e r (head _) =
    elim (result_cases (checked s q)) [ inl a ↦ a | inr b ↦ let f = b.1 in absurd (cc) ]
all_ok s (q ∷ rs) e r (tail _ _ i) =
    elim (result_cases (checked s q)) [
      | inl a ↦ all_ok s rs (cc) r i
      | inr b ↦ let f = b.1 in absurd (cc)
    ]

ok_all : (s : Station) (rs : List Rule) → ((r : Rule) → In r rs → checked s r ≡ Ok tt) → checks s rs ≡ Ok tt
ok_all s [] h = refl
ok_all s (r ∷ rs) h = let a = h r (head rs) in let b = ok_all s rs (λ q i. h q (tail r rs i)) in cc

earlier_in :
    (s : Station) (h : Rule) (rs : List Rule) (q : Rule) → checked s h ≡ Ok tt → (In q rs → checked s q ≡ Ok tt) → In q (h ∷ rs) → checked s q ≡ Ok tt
earlier_in s h rs q a t (head _) = a
earlier_in s h rs q a t (tail _ _ i) = t i

not_before : (rs : List Rule) (h : Rule) → Ascends (h ∷ rs) → (r : Rule) → h ≡ r → (q : Rule) → In q (h ∷ rs) → number q < number r → ⊥
not_before rs h up r e q (head _) l = let n = ap number e in omega arith
not_before rs h up r e q (tail _ _ i) l = let n = ap number e in let m = up.0 q i in omega arith

-- a refusal: its rule is broken, those of smaller number passed
err_first :
    (s : Station) (rs : List Rule) → Ascends rs → (r : Rule) (k : ℕ) → checks s rs ≡ Err (Broken r k)
    → Breaks s r k × ((q : Rule) → In q rs → number q < number r → checked s q ≡ Ok tt)
err_first s [] up r k e = absurd (cc)
err_first s (h ∷ rs) up r k e =
    elim (result_cases (checked s h)) [
      | inl a ↦ let t = err_first s rs up.1 r k (cc) in (t.0, λ q i l. earlier_in s h rs q a (λ j. t.1 q j l) i)
      | inr b ↦
          let f = b.1 in
          let c = err_breaks s h r k (cc) in
          (subst (λ x. Breaks s x k) c.0 c.1, λ q i l. absurd (not_before rs h up r c.0 q i l))
    ]

first_err :
    (s : Station) (rs : List Rule) → Ascends rs → (r : Rule) (k : ℕ) → In r rs → checked s r ≡ Err (Broken r k)
    → ((q : Rule) → number q < number r → checked s q ≡ Ok tt) → checks s rs ≡ Err (Broken r k)
first_err s [] up r k i e h = elim i [ ]
first_err s (q ∷ rs) up r k (head _) e h = cc
first_err s (q ∷ rs) up r k (tail _ _ i) e h = let a = h q (up.0 r i) in let b = first_err s rs up.1 r k i e h in cc

-- the list of rules has each, ascending
every_rule : (r : Rule) → In r all_rules
every_rule Fields = head _
every_rule Hierarchy = tail _ _ (head _)
every_rule Timing = tail _ _ (tail _ _ (head _))
every_rule Feeding = tail _ _ (tail _ _ (tail _ _ (head _)))
every_rule Window = tail _ _ (tail _ _ (tail _ _ (tail _ _ (head _))))
every_rule Refinement = tail _ _ (tail _ _ (tail _ _ (tail _ _ (tail _ _ (head _)))))
every_rule Writers = tail _ _ (tail _ _ (tail _ _ (tail _ _ (tail _ _ (tail _ _ (head _))))))

above : (n : ℕ) (rs : List Rule) → every_above n rs ≡ true → (q : Rule) → In q rs → n < number q
above n [] e q i = elim i [ ]
above n (r ∷ rs) e q (head _) = ltb-true _ _ (and_parts (ltb n (number r)) _ e).0
above n (r ∷ rs) e q (tail _ _ i) = above n rs (and_parts (ltb n (number r)) _ e).1 q i

rules_ascend : Ascends all_rules
rules_ascend =
    (above 3 _ refl, (above 4 _ refl, (above 5 _ refl, (above 6 _ refl, (above 7 _ refl, (above 8 _ refl, (above 9 _ refl, tt)))))))

pub exact : (s : Station) → Exactly s (verdict s)
exact s =
    record {
      accepted = λ e r. ok_passes s r (all_ok s all_rules e r (every_rule r));
      accepts = λ h. ok_all s all_rules (λ r _. passes_ok s r (h r));
      refused =
          λ r k e.
          let f = err_first s all_rules rules_ascend r k e in
          record {
            here = f.0.here;
            fails = f.0.fails;
            smaller = λ q l. ok_passes s q (f.1 q (every_rule q) l);
            earlier = f.0.earlier;
          };
      refuses =
          λ r k b.
          first_err s all_rules rules_ascend r k (every_rule r)
          (breaks_err s r k (record { here = b.here; fails = b.fails; earlier = b.earlier }))
          (λ q l. passes_ok s q (b.smaller q l));
    }
