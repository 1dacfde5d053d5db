-- What the law body and the tell-tale body answer.
use Rattle.std.specs.Prelude.{ℕ, ◌+◌, ◌*◌, ◌%◌, Bool, List, [], ◌∷◌, ℤ, pos, negsuc, ◌+ℤ◌, ◌-ℤ◌, ◌==◌, int_lt, slice_index_or, replicate}
use Rattle.std.specs.Int.{saturate_to_bits}

-- Set less the first input, held to 32 bits with sign.
abbrev pub law_of : ℤ → List ℤ → ℤ
law_of set ins = saturate_to_bits 31 (set -ℤ slice_index_or ins 0 (pos 0))

-- The law body: the same at each output.
abbrev pub law_works : ℤ → List ℤ → List ℤ
law_works set ins = replicate 4 (law_of set ins)

-- Each of its conditions holds if communicator 0 exceeds set.
abbrev pub law_tests : ℤ → List ℤ → Bool
law_tests set vs = int_lt set (slice_index_or vs 0 (pos 0))

-- The sum of the four inputs.
abbrev pub sum_of : List ℤ → ℤ
sum_of ins = (slice_index_or ins 0 (pos 0) +ℤ slice_index_or ins 1 (pos 0)) +ℤ (slice_index_or ins 2 (pos 0) +ℤ slice_index_or ins 3 (pos 0))

-- Output k of task t: 100 t + 10 k + 1 and the inputs' sum, held to 32 bits with sign.
abbrev pub tell : ℕ → ℕ → List ℤ → ℤ
tell t k ins = saturate_to_bits 31 (pos (100 * t + 10 * k + 1) +ℤ sum_of ins)

-- The tell-tale body.
abbrev pub tell_works : ℕ → List ℤ → List ℤ
tell_works t ins = tell t 0 ins ∷ tell t 1 ins ∷ tell t 2 ins ∷ tell t 3 ins ∷ []

-- A number with sign is odd.
abbrev pub is_odd : ℤ → Bool
is_odd (pos n) = n % 2 == 1
is_odd (negsuc n) = n % 2 == 0

-- Its condition c holds if communicator c mod 32 is odd.
abbrev pub tell_tests : ℕ → List ℤ → Bool
tell_tests c vs = is_odd (slice_index_or vs (c % 32) (pos 0))
