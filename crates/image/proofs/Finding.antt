-- Marks and the search for them.
use Rattle.std.proofs.Common.{◌≡◌, ℕ, Bool, true, false, cond, List, [], ◌∷◌, get_or, Some, Option, sym, refl, ap, ◌∙◌}
use Rattle.code.specs.declared.instructions.Opcode.{Opcode}
use Rattle.code.specs.declared.instructions.Opcode.TheVariants.{Return}
use Rattle.image.specs.Marks.{mark_of, opcodes, marked, found}

-- an opcode is found by its mark
pub found_mark : (o : Opcode) → found opcodes (get_or (mark_of o) 0 0) (get_or (mark_of o) 1 0) ≡ Some o
found_mark Return = refl
found_mark _ = refl

-- a mark is two letters
pub mark_two : (o : Opcode) → mark_of o ≡ get_or (mark_of o) 0 0 ∷ get_or (mark_of o) 1 0 ∷ []
mark_two Return = refl
mark_two _ = refl

-- the first that has the mark, or one after it
mark_either : (b : Bool) (x o : Opcode) (m n : ℕ) (later : Option Opcode) → marked x m n ≡ b → (later ≡ Some o → marked o m n ≡ true) → cond b (Some x) later ≡ Some o → marked o m n ≡ true
mark_either true x o m n later t f e = let same : x ≡ o = cc in ap (λ y. marked y m n) (sym same) ∙ t
mark_either false x o m n later t f e = f e

-- what is found has the mark
pub mark_found : (os : List Opcode) (m n : ℕ) (o : Opcode) → found os m n ≡ Some o → marked o m n ≡ true
mark_found [] m n o e = absurd cc
mark_found (x ∷ os) m n o e = mark_either (marked x m n) x o m n (found os m n) refl (mark_found os m n o) e
