-- The word of each instruction, and the instruction of each word.
use Rattle.std.specs.Prelude.{ℕ}
use Rattle.code.specs.declared.instructions.Opcode.{Opcode}
use Rattle.code.specs.declared.instructions.Opcode.TheVariants as op
use Rattle.code.specs.declared.instructions.Word.{Word}
use Rattle.code.specs.declared.instructions.Instruction.{Instruction}
use Rattle.code.specs.declared.instructions.Instruction.TheVariants.{Return, Write, Read, Depend, Expect, Release, Enter, FutureWrite, FutureSwitch, FutureRead, FutureRelease, JumpIf, Jump, Call, Copy, Push, Pop, GetParent, SetParent, Adopt, Delete}
use Rattle.code.specs.Opcodes.{register_number, register_of}

-- A word of its three parts.
abbrev pub made_of : Opcode → ℕ → ℕ → Word
made_of o a b = record { opcode = o; first = a; second = b }

-- The word of an instruction; operands that it does not have are 0.
abbrev pub word_of : Instruction → Word
word_of Return = made_of op.Return 0 0
word_of (Write l) = made_of op.Write l 0
word_of (Read l) = made_of op.Read l 0
word_of (Depend l) = made_of op.Depend l 0
word_of (Expect t e) = made_of op.Expect t e
word_of (Release t) = made_of op.Release t 0
word_of (Enter m) = made_of op.Enter m 0
word_of (FutureWrite n a) = made_of op.FutureWrite n a
word_of (FutureSwitch n a) = made_of op.FutureSwitch n a
word_of (FutureRead n a) = made_of op.FutureRead n a
word_of (FutureRelease t a) = made_of op.FutureRelease t a
word_of (JumpIf c a) = made_of op.JumpIf c a
word_of (Jump a) = made_of op.Jump a 0
word_of (Call a) = made_of op.Call a 0
word_of (Copy x y) = made_of op.Copy (register_number x) (register_number y)
word_of (Push x) = made_of op.Push (register_number x) 0
word_of (Pop x) = made_of op.Pop (register_number x) 0
word_of (GetParent x y) = made_of op.GetParent (register_number x) (register_number y)
word_of (SetParent x y) = made_of op.SetParent (register_number x) (register_number y)
word_of (Adopt x y) = made_of op.Adopt (register_number x) (register_number y)
word_of (Delete x) = made_of op.Delete (register_number x) 0

-- The instruction of an opcode with two operands.
abbrev pub taking : Opcode → ℕ → ℕ → Instruction
taking op.Return a b = Return
taking op.Write a b = Write a
taking op.Read a b = Read a
taking op.Depend a b = Depend a
taking op.Expect a b = Expect a b
taking op.Release a b = Release a
taking op.Enter a b = Enter a
taking op.FutureWrite a b = FutureWrite a b
taking op.FutureSwitch a b = FutureSwitch a b
taking op.FutureRead a b = FutureRead a b
taking op.FutureRelease a b = FutureRelease a b
taking op.JumpIf a b = JumpIf a b
taking op.Jump a b = Jump a
taking op.Call a b = Call a
taking op.Copy a b = Copy (register_of a) (register_of b)
taking op.Push a b = Push (register_of a)
taking op.Pop a b = Pop (register_of a)
taking op.GetParent a b = GetParent (register_of a) (register_of b)
taking op.SetParent a b = SetParent (register_of a) (register_of b)
taking op.Adopt a b = Adopt (register_of a) (register_of b)
taking op.Delete a b = Delete (register_of a)

-- The instruction that a word stands for.
abbrev pub instruction_of : Word → Instruction
instruction_of w = taking w.opcode w.first w.second
