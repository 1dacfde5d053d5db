-- What the operands of a code may be.
use Rattle.std.specs.Prelude.{ℕ, ◌-◌, Bool, true, cond, not, ◌&&◌, List, Some, Option, ◌==◌, nat_le, nat_lt, slice_index_or}
use Rattle.std.specs.List.{position_from}
use Rattle.code.specs.declared.instructions.Operand.{Operand}
use Rattle.code.specs.declared.instructions.Operand.TheVariants.{Unused, Line, Task, Mode, Condition, Ticks, End, Address, Register, OtherRegister}
use Rattle.code.specs.declared.instructions.Instruction.TheVariants.{Return}
use Rattle.code.specs.declared.instructions.Word.{Word}
use Rattle.code.specs.Opcodes.{operands_of, is_end}
use Rattle.code.specs.Words.{word_of}

-- Whether a value may stand in an operand, in a code of n instructions and beside the first operand.
abbrev pub allowed : ℕ → ℕ → Operand → ℕ → Bool
allowed n one Unused v = v == 0
allowed n one Line v = nat_lt v 128
allowed n one Task v = nat_lt v 64
allowed n one Mode v = nat_lt v 64
allowed n one Condition v = nat_lt v 256
allowed n one Ticks v = true
allowed n one End v = nat_lt 0 v
allowed n one Address v = nat_lt v n
allowed n one Register v = nat_lt v 4
allowed n one OtherRegister v = nat_lt v 4 && not (v == one)

-- Whether both operands of a word may stand in a code of n instructions.
abbrev pub legal : ℕ → Word → Bool
legal n w = allowed n w.first (operands_of w.opcode).0 w.first && allowed n w.first (operands_of w.opcode).1 w.second

-- Whether n words are neither none nor too many, and the last is a return or a jump.
abbrev pub closed : ℕ → List Word → Bool
closed n ws = (nat_lt 0 n && nat_le n 4096) && is_end (slice_index_or ws (n - 1) (word_of Return)).opcode

-- Where a code of n words breaks a rule: at 0 by its length or end, else at its first bad word.
abbrev pub broken : ℕ → List Word → Option ℕ
broken n ws = cond (closed n ws) (position_from (λ w. not (legal n w)) 0 ws) (Some 0)
