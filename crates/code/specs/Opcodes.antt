-- What each opcode takes, and which may stand last.
use Rattle.std.specs.Prelude.{ℕ, Bool, true, false, cond, ◌==◌}
use Rattle.code.specs.declared.instructions.Register.{Register}
use Rattle.code.specs.declared.instructions.Register.TheVariants.{R0, R1, R2, R3}
use Rattle.code.specs.declared.instructions.Opcode.{Opcode}
use Rattle.code.specs.declared.instructions.Opcode.TheVariants.{Return, Write, Read, Depend, Expect, Release, Enter, FutureWrite, FutureSwitch, FutureRead, FutureRelease, JumpIf, Jump, Call, Copy, Push, Pop, GetParent, SetParent, Adopt, Delete}
use Rattle.code.specs.declared.instructions.Operand.{Operand}
use Rattle.code.specs.declared.instructions.Operand.TheVariants as kind

-- The two operands of each opcode.
abbrev pub operands_of : Opcode → Operand × Operand
operands_of Return = (kind.Unused, kind.Unused)
operands_of Write = (kind.Line, kind.Unused)
operands_of Read = (kind.Line, kind.Unused)
operands_of Depend = (kind.Line, kind.Unused)
operands_of Expect = (kind.Task, kind.End)
operands_of Release = (kind.Task, kind.Unused)
operands_of Enter = (kind.Mode, kind.Unused)
operands_of FutureWrite = (kind.Ticks, kind.Address)
operands_of FutureSwitch = (kind.Ticks, kind.Address)
operands_of FutureRead = (kind.Ticks, kind.Address)
operands_of FutureRelease = (kind.Task, kind.Address)
operands_of JumpIf = (kind.Condition, kind.Address)
operands_of Jump = (kind.Address, kind.Unused)
operands_of Call = (kind.Address, kind.Unused)
operands_of Copy = (kind.Register, kind.OtherRegister)
operands_of Push = (kind.Register, kind.Unused)
operands_of Pop = (kind.Register, kind.Unused)
operands_of GetParent = (kind.Register, kind.OtherRegister)
operands_of SetParent = (kind.Register, kind.OtherRegister)
operands_of Adopt = (kind.Register, kind.OtherRegister)
operands_of Delete = (kind.Register, kind.Unused)

-- Return and jump never go on to the instruction that follows.
abbrev pub is_end : Opcode → Bool
is_end Return = true
is_end Jump = true
is_end _ = false

-- The number of each register.
abbrev pub register_number : Register → ℕ
register_number R0 = 0
register_number R1 = 1
register_number R2 = 2
register_number R3 = 3

-- The register of each number below 4.
abbrev pub register_of : ℕ → Register
register_of n = cond (n == 0) R0 (cond (n == 1) R1 (cond (n == 2) R2 R3))
