-- Operands that pass the tests lie in their ranges, and the other way round.
use Rattle.std.proofs.Common.{◌≡◌, ℕ, ◌<◌, true, Decides, not, ◌&&◌, eqb, ltb, ◌≢◌, refl, ap, inl, inr, arith}
use Rattle.std.proofs.lemmas.Bool.{false≢true}
use Rattle.std.proofs.lemmas.Bool.Decides.{nat_tests}
use Rattle.code.specs.declared.instructions.Register.{Register}
use Rattle.code.specs.declared.instructions.Register.TheVariants.{R0, R1, R2, R3}
use Rattle.code.specs.declared.instructions.Instruction.{Instruction}
use Rattle.code.specs.declared.instructions.Instruction.TheVariants.{Return, Jump, Copy, GetParent, SetParent, Adopt}
use Rattle.code.specs.Opcodes.{is_end, register_number, register_of}
use Rattle.code.specs.Words.{word_of}
use Rattle.code.specs.Rules.{legal}
use Rattle.code.specs.Bounds.{Within, Last}

-- the register of a register's number
pub register_back : (x : Register) → register_of (register_number x) ≡ x
register_back R0 = refl
register_back R1 = refl
register_back R2 = refl
register_back R3 = refl

-- the number of a number's register
pub number_back : (n : ℕ) → n < 4 → register_number (register_of n) ≡ n
number_back n h = grind (arith, nat_tests)

pub number_below : (x : Register) → ltb (register_number x) 4 ≡ true
number_below R0 = refl
number_below R1 = refl
number_below R2 = refl
number_below R3 = refl

-- registers of different numbers differ
apart : (x y : Register) → (ltb (register_number x) 4 && (ltb (register_number y) 4 && not (eqb (register_number y) (register_number x)))) ≡ true → x ≢ y
apart x y h e = grind (arith, nat_tests)

-- different registers have different numbers
legal_apart : (x y : Register) → x ≢ y → (ltb (register_number x) 4 && (ltb (register_number y) 4 && not (eqb (register_number y) (register_number x)))) ≡ true
legal_apart x y d = grind (arith, nat_tests, number_below, register_back)

-- operands are legal exactly if they lie in their ranges
pub within_decides : (n : ℕ) (i : Instruction) → Decides (legal n (word_of i)) (Within n i)
within_decides n (Copy x y) = (apart x y, legal_apart x y)
within_decides n (GetParent x y) = (apart x y, legal_apart x y)
within_decides n (SetParent x y) = (apart x y, legal_apart x y)
within_decides n (Adopt x y) = (apart x y, legal_apart x y)
within_decides n _ = grind (arith, nat_tests, number_below)

-- an opcode that ends is that of a return or a jump
pub last : (i : Instruction) → is_end (word_of i).opcode ≡ true → Last i
last Return h = inl refl
last (Jump a) h = inr (a, refl)
last _ h = absurd (false≢true h)

-- a return and a jump end
pub last_ends : (i : Instruction) → Last i → is_end (word_of i).opcode ≡ true
last_ends i (inl e) = ap (λ x. is_end (word_of x).opcode) e
last_ends i (inr (a, e)) = ap (λ x. is_end (word_of x).opcode) e
