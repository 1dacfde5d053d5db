-- The two letters that stand for each opcode.
use Rattle.std.specs.Prelude.{ℕ, Bool, ◌&&◌, List, [], ◌∷◌, codes, Option, ◌==◌, slice_index}
use Rattle.std.specs.List.{find}
use Rattle.code.specs.declared.instructions.Opcode.{Opcode}
use Rattle.code.specs.declared.instructions.Opcode.TheVariants.{Return, Write, Read, Depend, Expect, Release, Enter, FutureWrite, FutureSwitch, FutureRead, FutureRelease, JumpIf, Jump, Call, Copy, Push, Pop, GetParent, SetParent, Adopt, Delete}

-- The mark of each opcode.
abbrev pub mark_of : Opcode → List ℕ
mark_of Return = codes "RT"
mark_of Write = codes "CW"
mark_of Read = codes "CR"
mark_of Depend = codes "CD"
mark_of Expect = codes "EX"
mark_of Release = codes "RL"
mark_of Enter = codes "EN"
mark_of FutureWrite = codes "WF"
mark_of FutureSwitch = codes "SF"
mark_of FutureRead = codes "RF"
mark_of FutureRelease = codes "PF"
mark_of JumpIf = codes "JI"
mark_of Jump = codes "JP"
mark_of Call = codes "JS"
mark_of Copy = codes "CP"
mark_of Push = codes "PU"
mark_of Pop = codes "PO"
mark_of GetParent = codes "GP"
mark_of SetParent = codes "SP"
mark_of Adopt = codes "AC"
mark_of Delete = codes "DC"

-- Every opcode.
abbrev pub opcodes : List Opcode
opcodes = Return ∷ Write ∷ Read ∷ Depend ∷ Expect ∷ Release ∷ Enter ∷ FutureWrite ∷ FutureSwitch ∷ FutureRead ∷ FutureRelease ∷ JumpIf ∷ Jump ∷ Call ∷ Copy ∷ Push ∷ Pop ∷ GetParent ∷ SetParent ∷ Adopt ∷ Delete ∷ []

-- Whether two letters are the mark of an opcode.
abbrev pub marked : Opcode → ℕ → ℕ → Bool
marked o m n = slice_index (mark_of o) 0 == m && slice_index (mark_of o) 1 == n

-- The first of some opcodes that has a mark.
abbrev pub found : List Opcode → ℕ → ℕ → Option Opcode
found os m n = find (λ o. marked o m n) os
