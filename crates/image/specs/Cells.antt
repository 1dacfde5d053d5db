-- The six bytes of an instruction: its mark and two half-words.
use Rattle.std.specs.Prelude.{ℕ, ◌+◌, ◌*◌, ◌/◌, ◌%◌, Bool, true, cond, ◌&&◌, List, [], ◌∷◌, ◌++◌, Some, None, Option, ◌==◌, slice_index}
use Rattle.code.specs.declared.instructions.Opcode.{Opcode}
use Rattle.code.specs.declared.instructions.Operand.{Operand}
use Rattle.code.specs.declared.instructions.Operand.TheVariants.{Unused}
use Rattle.code.specs.declared.instructions.Word.{Word}
use Rattle.code.specs.Opcodes.{operands_of}
use Rattle.code.specs.Words.{made_of}
use Rattle.image.specs.Marks.{mark_of, opcodes, found}

-- A half-word, high byte first.
abbrev pub half : ℕ → List ℕ
half v = (v / 256) ∷ (v % 256) ∷ []

-- The half-word of two bytes.
abbrev pub value : ℕ → ℕ → ℕ
value high low = high * 256 + low

-- The six bytes of a word.
abbrev pub cell : Word → List ℕ
cell w = mark_of w.opcode ++ (half w.first ++ half w.second)

-- Whether a value may stand in an operand of an image: 0 where there is no operand.
abbrev pub blank : Operand → ℕ → Bool
blank Unused v = v == 0
blank _ v = true

-- Whether the operands that an opcode does not have are 0.
abbrev pub padded : Opcode → ℕ → ℕ → Bool
padded o a b = blank (operands_of o).0 a && blank (operands_of o).1 b

-- The word of an opcode that was found, unless an unused operand is not 0.
abbrev pub clean : Option Opcode → ℕ → ℕ → Option Word
clean None a b = None
clean (Some o) a b = cond (padded o a b) (Some (made_of o a b)) None

-- The word of six bytes.
abbrev pub word_in : ℕ → ℕ → ℕ → ℕ → ℕ → ℕ → Option Word
word_in m n a b c d = clean (found opcodes m n) (value a b) (value c d)

-- The word of a list of six bytes.
abbrev pub word_of_cell : List ℕ → Option Word
word_of_cell c = word_in (slice_index c 0) (slice_index c 1) (slice_index c 2) (slice_index c 3) (slice_index c 4) (slice_index c 5)

-- The words of bytes, six by six; none for six bytes that are no word.
unfoldable pub words_in : List ℕ → List (Option Word)
words_in (m ∷ n ∷ a ∷ b ∷ c ∷ d ∷ bs) = word_in m n a b c d ∷ words_in bs
words_in [] = []
words_in (m ∷ []) = []
words_in (m ∷ n ∷ []) = []
words_in (m ∷ n ∷ a ∷ []) = []
words_in (m ∷ n ∷ a ∷ b ∷ []) = []
words_in (m ∷ n ∷ a ∷ b ∷ c ∷ []) = []
