-- An instruction and its word determine each other.
use Rattle.std.proofs.Common.{◌≡◌, ℕ, ◌+◌, true, not, List, [], ◌∷◌, map, None, refl, ap, ◌∙◌, arith}
use Rattle.std.proofs.lemmas.Bool.Decides.{nat_tests}
use Rattle.std.proofs.lemmas.Bool.{not-false}
use Rattle.std.specs.List.{position_from}
use Rattle.code.specs.declared.instructions.Opcode.{Opcode}
use Rattle.code.specs.declared.instructions.Opcode.TheVariants as op
use Rattle.code.specs.declared.instructions.Word.{Word}
use Rattle.code.specs.declared.instructions.Instruction.{Instruction}
use Rattle.code.specs.declared.instructions.Instruction.TheVariants.{Return}
use Rattle.code.specs.Words.{word_of, instruction_of, made_of, taking}
use Rattle.code.specs.Rules.{legal}
use Rattle.code.proofs.Ranges.{register_back, number_back}
use Rattle.code.proofs.Firsts.{none_passed}

-- the instruction of an instruction's word
pub instruction_back : (i : Instruction) → instruction_of (word_of i) ≡ i
instruction_back Return = refl
instruction_back _ = grind (arith, register_back)

-- the word of a legal word's instruction
taking_back : (n : ℕ) (o : Opcode) (a b : ℕ) → legal n (made_of o a b) ≡ true → word_of (taking o a b) ≡ made_of o a b
taking_back n op.Return a b h = grind (arith, nat_tests, number_back)
taking_back n _ a b h = grind (arith, nat_tests, number_back)

pub word_back : (n : ℕ) (w : Word) → legal n w ≡ true → word_of (instruction_of w) ≡ w
word_back n w h = taking_back n w.opcode w.first w.second h

-- the instructions of instructions' words
pub instructions_back : (xs : List Instruction) → map instruction_of (map word_of xs) ≡ xs
instructions_back [] = refl
instructions_back (x ∷ xs) = ap (λ y. y ∷ map instruction_of (map word_of xs)) (instruction_back x) ∙ ap (λ ys. x ∷ ys) (instructions_back xs)

-- the words of legal words' instructions
pub words_back : (n k : ℕ) (ws : List Word) → position_from (λ w. not (legal n w)) k ws ≡ None → map word_of (map instruction_of ws) ≡ ws
words_back n k [] e = refl
words_back n k (w ∷ ws) e =
    let p = none_passed (not (legal n w)) (position_from (λ v. not (legal n v)) (k + 1) ws) k e in
    ap (λ v. v ∷ map word_of (map instruction_of ws)) (word_back n w (not-false _ p.0)) ∙ ap (λ vs. w ∷ vs) (words_back n (k + 1) ws p.1)
