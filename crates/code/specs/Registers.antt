-- Which register a number is read as.
use Rattle.std.specs.Prelude.{◌≡◌, ℕ, ◌<◌, Result, MatchResult}
use Rattle.code.specs.declared.instructions.Register.{Register}
use Rattle.code.specs.declared.instructions.NoRegister.{NoRegister}
use Rattle.code.specs.Opcodes.{register_of}

-- A number below 4 is read as its register, and any other is refused and named.
abbrev pub IsRegister : ℕ → Result Register NoRegister → Type 0
IsRegister n r = MatchResult r (λ x. (n < 4) × (x ≡ register_of n)) (λ e. (3 < n) × (e.0 ≡ n))
