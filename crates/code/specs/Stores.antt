-- What a code store holds, and which codes are taken.
use Rattle.std.specs.Prelude.{◌≡◌, ℕ, List, length, map, Some, None, Ok, Err, Option, Result}
use Rattle.bounded.specs.Items.{items}
use Rattle.fault.specs.declared.Fault.{Fault}
use Rattle.fault.specs.declared.Fault.TheVariants.{BadCode}
use Rattle.code.specs.declared.CodeStore.{CodeStore}
use Rattle.code.specs.declared.instructions.Instruction.{Instruction}
use Rattle.code.specs.Rules.{broken}
use Rattle.code.specs.Words.{word_of}

-- The instructions of a store, in order.
abbrev pub instructions : CodeStore → List Instruction
instructions s = items s.code

-- A code, unless it breaks a rule somewhere.
abbrev pub verdict : Option ℕ → List Instruction → Result (List Instruction) Fault
verdict (Some p) xs = Err (BadCode p)
verdict None xs = Ok xs

-- What n instructions come to: the code that they are, or the refusal with its place.
abbrev pub stored : ℕ → List Instruction → Result (List Instruction) Fault
stored n xs = verdict (broken n (map word_of xs)) xs

-- The instructions of a store that was made, or the refusal.
abbrev pub held : Result CodeStore Fault → Result (List Instruction) Fault
held (Ok s) = Ok (instructions s)
held (Err f) = Err f

-- Instructions that break no rule.
abbrev pub Unbroken : List Instruction → Type 0
Unbroken xs = broken (length xs) (map word_of xs) ≡ None

-- Instructions that break a rule, and the refusal that names the place.
abbrev pub BrokenAt : List Instruction → Fault → Type 0
BrokenAt xs f = (p : ℕ) × (broken (length xs) (map word_of xs) ≡ Some p) × (f ≡ BadCode p)
