-- What holds of every code store.
use Rattle.std.specs.Prelude.{ℕ, ◌-◌, ◌<◌, ◌≤◌, List, slice_index_or}
use Rattle.code.specs.declared.instructions.Instruction.{Instruction}
use Rattle.code.specs.declared.instructions.Instruction.TheVariants.{Return}
use Rattle.code.specs.Bounds.{Within, Last}

-- 1 to 4,096 instructions, every operand in its range, a return or a jump at the end.
abbrev pub Sound : ℕ → List Instruction → Type 0
Sound n xs = (0 < n) × (n ≤ 4096) × ((k : ℕ) → k < n → Within n (slice_index_or xs k Return)) × Last (slice_index_or xs (n - 1) Return)
