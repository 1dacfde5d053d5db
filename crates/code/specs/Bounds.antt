-- The range of each operand.
use Rattle.std.specs.Prelude.{◌≡◌, ℕ, ◌<◌, ◌≢◌, ◌⊎◌}
use Rattle.code.specs.declared.instructions.Instruction.{Instruction}
use Rattle.code.specs.declared.instructions.Instruction.TheVariants.{Return, Write, Read, Depend, Expect, Release, Enter, FutureWrite, FutureSwitch, FutureRead, FutureRelease, JumpIf, Jump, Call, Copy, Push, Pop, GetParent, SetParent, Adopt, Delete}

-- Every operand of an instruction lies in its range, in a code of n instructions.
abbrev pub Within : ℕ → Instruction → Type 0
Within n Return = Unit {0}
Within n (Write l) = l < 128
Within n (Read l) = l < 128
Within n (Depend l) = l < 128
Within n (Expect t e) = (t < 64) × (0 < e)
Within n (Release t) = t < 64
Within n (Enter m) = m < 64
Within n (FutureWrite k a) = a < n
Within n (FutureSwitch k a) = a < n
Within n (FutureRead k a) = a < n
Within n (FutureRelease t a) = (t < 64) × (a < n)
Within n (JumpIf c a) = (c < 256) × (a < n)
Within n (Jump a) = a < n
Within n (Call a) = a < n
Within n (Copy x y) = x ≢ y
Within n (Push x) = Unit {0}
Within n (Pop x) = Unit {0}
Within n (GetParent x y) = x ≢ y
Within n (SetParent x y) = x ≢ y
Within n (Adopt x y) = x ≢ y
Within n (Delete x) = Unit {0}

-- A return or a jump.
abbrev pub Last : Instruction → Type 0
Last x = (x ≡ Return) ⊎ ((a : ℕ) × (x ≡ Jump a))
