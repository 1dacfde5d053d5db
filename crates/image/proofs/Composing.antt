-- From words to a code.
use Rattle.std.proofs.Common.{◌≡◌, ℕ, ◌+◌, ◌-◌, ◌<◌, ◌≤◌, Bool, true, false, cond, not, ◌&&◌, ltb, leb, List, [], ◌∷◌, ◌++◌, map, length, get_or, take, set, Some, None, Err, sym, refl, ap, ◌∙◌, inl, inr, arith}
use Rattle.std.specs.Option.{option_map_or}
use Rattle.std.specs.List.{position_from}
use Rattle.fault.specs.declared.Fault.TheVariants.{BadCode}
use Rattle.std.proofs.lemmas.List.{take_all, take_more_set, map_more}
use Rattle.std.proofs.lemmas.Option.{slice_get-get_or, slice_get_past}
use Rattle.std.proofs.lemmas.Bool.{cases_lt, and_left, and_right, cond-true, cond-false, lt-ltb, le-leb, lt-leb}
use Rattle.code.specs.declared.instructions.Instruction.{Instruction}
use Rattle.code.specs.declared.instructions.Instruction.TheVariants.{Return}
use Rattle.code.specs.declared.instructions.Word.{Word}
use Rattle.code.specs.Opcodes.{is_end}
use Rattle.code.specs.Rules.{legal, closed, broken}
use Rattle.code.specs.Stores.{verdict, stored}
use Rattle.code.specs.Words.{word_of, instruction_of}
use Rattle.code.proofs.Decoding.{words_back}
use Rattle.code.proofs.Firsts.{none_passes, first_passes}
use Rattle.std.proofs.lemmas.Bool.Decides.{nat_tests}
use Rattle.image.specs.Images.{ended, decoded}

-- what a word gives: the instruction, and that it is legal
pub decoded_some : (b : Bool) (i j : Instruction) → Some i ≡ cond b (Some j) None → (b ≡ true) × (i ≡ j)
decoded_some true i j e = (refl, (let same : i ≡ j = cc in same))
decoded_some false i j e = absurd cc

pub decoded_none : (b : Bool) (j : Instruction) → None ≡ cond b (Some j) None → b ≡ false
decoded_none true j e = absurd cc
decoded_none false j e = refl

-- words few enough are closed if they end
closed_as : (ws : List Word) → length ws ≤ 4096 → closed (length ws) ws ≡ ended ws
closed_as ws few =
    let fits : leb (length ws) 4096 ≡ true = le-leb (length ws) 4096 few in
    without (ltb 0 (length ws)) (leb (length ws) 4096) (is_end (get_or ws (length ws - 1) (word_of Return)).opcode) fits ∙ sym last
  where
    without : (a b c : Bool) → b ≡ true → ((a && b) && c) ≡ (a && c)
    without true true c e = refl
    without true false c e = absurd cc
    without false b c e = refl

    last : ended ws ≡ (ltb 0 (length ws) && is_end (get_or ws (length ws - 1) (word_of Return)).opcode)
    last =
        elim (cases_lt 0 (length ws)) [
          | inl h ↦
              let inside : length ws - 1 < length ws = omega arith in
              ap (λ o. option_map_or (λ w. is_end w.opcode) o false) (slice_get-get_or ws (length ws - 1) (word_of Return) inside)
              ∙ sym (ap (λ b. b && is_end (get_or ws (length ws - 1) (word_of Return)).opcode) (lt-ltb 0 (length ws) h))
          | inr h ↦
              let past : length ws ≤ length ws - 1 = omega arith in
              let none : ltb 0 (length ws) ≡ false = grind (arith, nat_tests) in
              ap (λ o. option_map_or (λ w. is_end w.opcode) o false) (slice_get_past ws (length ws - 1) past)
              ∙ sym (ap (λ b. b && is_end (get_or ws (length ws - 1) (word_of Return)).opcode) none)
        ]

-- a wrong length or end
unclosed : (ws : List Word) → closed (length ws) ws ≡ false → Err (BadCode 0) ≡ decoded ws
unclosed ws e = ap (λ o. verdict o (map instruction_of ws)) (sym (cond-false (closed (length ws) ws) _ _ e))

-- words too many
pub too_many : (ws : List Word) → 4096 < length ws → Err (BadCode 0) ≡ decoded ws
too_many ws h = unclosed ws (and_left _ _ (and_right _ _ (lt-leb (length ws) 4096 h)))

-- no words, or a wrong end
pub ill_ended : (ws : List Word) → length ws ≤ 4096 → ended ws ≡ false → Err (BadCode 0) ≡ decoded ws
ill_ended ws few f = unclosed ws (closed_as ws few ∙ f)

-- the first bad word
pub ill_placed : (ws : List Word) (k : ℕ) → length ws ≤ 4096 → ended ws ≡ true → k < length ws → ((j : ℕ) → j < k → legal (length ws) (get_or ws j (word_of Return)) ≡ true) → None ≡ cond (legal (length ws) (get_or ws k (word_of Return))) (Some (instruction_of (get_or ws k (word_of Return)))) None → Err (BadCode k) ≡ decoded ws
ill_placed ws k few f h all bad =
    ap (λ o. verdict o (map instruction_of ws))
    (sym
    (cond-true (closed (length ws) ws) _ _ (closed_as ws few ∙ f)
    ∙ first_passes (λ w. not (legal (length ws) w)) ws (word_of Return) k h (λ j l. ap not (all j l)) (ap not (decoded_none _ _ bad))))

-- one instruction more
pub composed_more : (ws : List Word) (xs : List Instruction) (k : ℕ) (i : Instruction) → k < length xs → k < length ws → Some i ≡ cond (legal (length ws) (get_or ws k (word_of Return))) (Some (instruction_of (get_or ws k (word_of Return)))) None → take k xs ≡ map instruction_of (take k ws) → (legal (length ws) (get_or ws k (word_of Return)) ≡ true) × (take (k + 1) (set xs k i) ≡ map instruction_of (take (k + 1) ws))
composed_more ws xs k i h l some was =
    let p = decoded_some (legal (length ws) (get_or ws k (word_of Return))) i (instruction_of (get_or ws k (word_of Return))) some in
    (p.0, take_more_set xs k i h ∙ ap (λ ys. ys ++ (i ∷ [])) was ∙ ap (λ y. map instruction_of (take k ws) ++ (y ∷ [])) p.1 ∙ sym (map_more instruction_of ws k (word_of Return) l))

-- no bad word: the store takes the instructions as the words say
pub composed : (ws : List Word) (xs : List Instruction) → ((j : ℕ) → j < length ws → legal (length ws) (get_or ws j (word_of Return)) ≡ true) → xs ≡ map instruction_of (take (length ws) ws) → stored (length ws) xs ≡ decoded ws
composed ws xs all x =
    let whole : xs ≡ map instruction_of ws = x ∙ ap (map instruction_of) (take_all (length ws) ws (omega arith)) in
    let none : position_from (λ w. not (legal (length ws) w)) 0 ws ≡ None = none_passes (λ w. not (legal (length ws) w)) 0 ws (word_of Return) (λ j l. ap not (all j l)) in
    let back : map word_of (map instruction_of ws) ≡ ws = words_back (length ws) 0 ws none in
    ap (λ ys. stored (length ws) ys) whole
    ∙ ap (λ vs. verdict (broken (length ws) vs) (map instruction_of ws)) back
