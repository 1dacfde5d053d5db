-- What the tank stand and the loop-back rack would sense and show.
use Rattle.std.specs.Prelude.{ℕ, cond, List, [], ◌∷◌, ℤ, pos, ◌+ℤ◌, int_lt, nat_lt, slice_index, slice_index_or, slice_set}
use Rattle.plant.specs.Acts.{Act, Drive, Pass, Answers}

-- A number held to 0 to 10,000.
abbrev pub held : ℤ → ℤ
held z = cond (int_lt z (pos 0)) (pos 0) (cond (int_lt (pos 10000) z) (pos 10000) z)

-- What stands at a place among the first n, and 0 beyond them.
abbrev pub within : ℕ → List ℤ → ℕ → ℤ
within n xs i = cond (nat_lt i n) (slice_index_or xs i (pos 0)) (pos 0)

-- The outputs after one of them was driven.
abbrev pub driven : List ℤ → ℕ → ℤ → List ℤ
driven outs i v = cond (nat_lt i 32) (slice_set outs i v) outs

-- The levels after a pass: output 8 + i is added to level i.
abbrev pub filled : List ℤ → List ℤ → List ℤ
filled ls outs =
    held (slice_index_or ls 0 (pos 0) +ℤ slice_index_or outs 8 (pos 0))
    ∷ held (slice_index_or ls 1 (pos 0) +ℤ slice_index_or outs 9 (pos 0))
    ∷ held (slice_index_or ls 2 (pos 0) +ℤ slice_index_or outs 10 (pos 0)) ∷ []

-- The tank stand: sensors 0 to 2 are the levels.
abbrev pub tank_means : List ℤ → List ℤ → List Act → Answers
tank_means ls outs [] = record { sense = within 3 ls; shown = within 32 outs }
tank_means ls outs (Drive i v ∷ l) = tank_means ls (driven outs i v) l
tank_means ls outs (Pass ∷ l) = tank_means (filled ls outs) outs l

-- What the output wired to a sensor shows.
abbrev pub looped : List ℕ → List ℤ → ℕ → ℤ
looped ws outs i = cond (nat_lt i 32) (within 32 outs (slice_index ws i)) (pos 0)

-- The loop-back rack: a pass changes nothing.
abbrev pub rack_means : List ℕ → List ℤ → List Act → Answers
rack_means ws outs [] = record { sense = looped ws outs; shown = within 32 outs }
rack_means ws outs (Drive i v ∷ l) = rack_means ws (driven outs i v) l
rack_means ws outs (Pass ∷ l) = rack_means ws outs l
