-- Which codes are taken.
use Rattle.std.proofs.Common.{◌≡◌, ℕ, ◌+◌, ◌-◌, ◌<◌, ◌≤◌, Bool, true, false, cond, not, ◌&&◌, ltb, leb, List, map, length, get_or, Some, None, Decides, Option, sym, refl, ap, ◌∙◌, subst, inl, inr, arith}
use Rattle.std.proofs.lemmas.List.{length-map, get_or-map, get_or_past}
use Rattle.std.proofs.lemmas.Bool.{and_parts, and_from, ltb-true, leb-true, lt-ltb, le-leb, cond-true, not-false, cases_lt, cases_order, false≢true}
use Rattle.std.specs.List.{position_from}
use Rattle.code.specs.declared.CodeStore.{CodeStore}
use Rattle.code.specs.Stores.{instructions}
use Rattle.code.specs.declared.instructions.Instruction.{Instruction}
use Rattle.code.specs.declared.instructions.Instruction.TheVariants.{Return}
use Rattle.code.specs.declared.instructions.Word.{Word}
use Rattle.code.specs.Opcodes.{is_end}
use Rattle.code.specs.Words.{word_of}
use Rattle.code.specs.Rules.{legal, closed, broken}
use Rattle.code.specs.Bounds.{Within}
use Rattle.code.specs.Promises.{Sound}
use Rattle.code.proofs.Ranges.{within_decides, last, last_ends}
use Rattle.code.proofs.Firsts.{each_fails, none_passes}

-- a word of an instruction
word_at : (xs : List Instruction) (k : ℕ) → k < length xs → get_or (map word_of xs) k (word_of Return) ≡ word_of (get_or xs k Return)
word_at xs k h = get_or-map word_of xs k Return (word_of Return) h

-- nothing is broken: neither length nor end, nor a word
pub unbroken_parts : (n : ℕ) (ws : List Word) → broken n ws ≡ None → (closed n ws ≡ true) × (position_from (λ w. not (legal n w)) 0 ws ≡ None)
unbroken_parts n ws e = parts (closed n ws) (position_from (λ w. not (legal n w)) 0 ws) e
  where
    parts : (b : Bool) (o : Option ℕ) → cond b o (Some 0) ≡ None → (b ≡ true) × (o ≡ None)
    parts true o e = (refl, e)
    parts false o e = absurd cc

-- a code that breaks no rule is sound
pub sound_unbroken : (n : ℕ) (xs : List Instruction) → (n ≤ 4096 → length xs ≡ n) → broken n (map word_of xs) ≡ None → Sound n xs
sound_unbroken n xs w e =
    let p = unbroken_parts n (map word_of xs) e in
    let q = and_parts (ltb 0 n && leb n 4096) _ p.0 in
    let s = and_parts (ltb 0 n) _ q.0 in
    let some : 0 < n = ltb-true 0 n s.0 in
    let whole : length xs ≡ n = w (leb-true n 4096 s.1) in
    let count : length (map word_of xs) ≡ n = length-map xs word_of ∙ whole in
    let low : n - 1 < length xs = omega arith in (
      some,
      leb-true n 4096 s.1,
      (λ k h. let near : k < length xs = omega arith in let inside : k < length (map word_of xs) = omega arith in (within_decides n (get_or xs k Return)).0 (ap (legal n) (sym (word_at xs k near)) ∙ not-false _ (each_fails (λ w. not (legal n w)) 0 (map word_of xs) (word_of Return) p.1 k inside))),
      last (get_or xs (n - 1) Return) (ap (λ v. is_end v.opcode) (sym (word_at xs (n - 1) low)) ∙ q.1),
    )

-- a sound code breaks no rule
pub unbroken_sound : (n : ℕ) (xs : List Instruction) → length xs ≡ n → Sound n xs → broken n (map word_of xs) ≡ None
unbroken_sound n xs w s =
    let some : 0 < n = s.0 in
    let count : length (map word_of xs) ≡ n = length-map xs word_of ∙ w in
    let low : n - 1 < length xs = omega arith in
    cond-true (closed n (map word_of xs)) _ _
    (and_from _ _ (and_from _ _ (lt-ltb 0 n some) (le-leb n 4096 s.1))
    (ap (λ v. is_end v.opcode) (word_at xs (n - 1) low) ∙ last_ends (get_or xs (n - 1) Return) s.3))
    ∙ none_passes (λ w. not (legal n w)) 0 (map word_of xs) (word_of Return)
    (λ j h. let near : j < length xs = omega arith in let under : j < n = omega arith in ap (λ w. not (legal n w)) (word_at xs j near) ∙ ap not ((within_decides n (get_or xs j Return)).1 (s.2 j under)))

-- the operands of an instruction of a sound code, and of the return past its end
pub sound_within : (xs : List Instruction) (k : ℕ) → Sound (length xs) xs → Within (length xs) (get_or xs k Return)
sound_within xs k s =
    elim (cases_lt k (length xs)) [
      | inl h ↦ s.2 k h
      | inr h ↦ subst (Within (length xs)) (sym (get_or_past xs k Return h)) tt
    ]

-- an instruction of a sound code that goes on is not the last
pub sound_goes_on : (xs : List Instruction) (k : ℕ) → Sound (length xs) xs → is_end (word_of (get_or xs k Return)).opcode ≡ false → k + 1 < length xs
sound_goes_on xs k s e =
    elim (cases_lt k (length xs)) [
      | inl h ↦
          elim (cases_order k (length xs - 1)) [ inl q ↦ absurd (false≢true (sym e ∙ ap (λ j. is_end (word_of (get_or xs j Return)).opcode) q ∙ last_ends (get_or xs (length xs - 1) Return) s.3)) | inr (inl l) ↦ omega arith | inr (inr l) ↦ absurd (omega arith) ]
      | inr h ↦ absurd (false≢true (sym e ∙ ap (λ x. is_end (word_of x).opcode) (get_or_past xs k Return h)))
    ]

-- a code that breaks a rule is not sound
pub broken_unsound : (n : ℕ) (xs : List Instruction) (p : ℕ) → (n ≤ 4096 → length xs ≡ n) → broken n (map word_of xs) ≡ Some p → Decides false (Sound n xs)
broken_unsound n xs p w e = (
  (λ t. absurd (false≢true t)),
  (λ s. absurd (let none = unbroken_sound n xs (w s.1) s in cc)),
)

-- a code with a bad instruction is not sound
pub bad_unsound : (xs : List Instruction) (k : ℕ) → Some k ≡ position_from (λ w. not (legal (length xs) w)) 0 (map word_of xs) → Decides false (Sound (length xs) xs)
bad_unsound xs k e = (
  (λ t. absurd (false≢true t)),
  (λ s. absurd (let none = (unbroken_parts (length xs) (map word_of xs) (unbroken_sound (length xs) xs refl s)).1 in cc)),
)

-- what a store holds is sound
pub store_sound : (s : CodeStore) → Sound (length (instructions s)) (instructions s)
store_sound s = sound_unbroken (length (instructions s)) (instructions s) (λ _. refl) s.unbroken
