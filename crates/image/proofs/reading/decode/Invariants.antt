use Rattle.std.proofs.Common.{◌≡◌, ℕ, ◌<◌, true, map, length, get_or, take}
use Rattle.code.specs.declared.instructions.Instruction.TheVariants.{Return}
use Rattle.code.specs.Rules.{legal}
use Rattle.code.specs.Words.{word_of, instruction_of}
use Rattle.image.proofs.reading.decode.Given as goal

abbrev pub invariant-loop-place : goal.invariant-loop-place
invariant-loop-place l = ((j : ℕ) → j < l.place → legal l.len (get_or l.words j (word_of Return)) ≡ true) × (take l.place l.code ≡ map instruction_of (take l.place l.words)) × (length l.code ≡ 4096)
