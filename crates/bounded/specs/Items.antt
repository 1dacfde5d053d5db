-- The list that a bounded list stands for.
use Rattle.std.specs.Prelude.{ℕ, ◌-◌, List, length, take, Option}
use Rattle.std.specs.List.{slice_get}
use Rattle.bounded.specs.declared.Bounded.{Bounded}

-- The items held, in order.
abbrev pub items : {T : Type 0} {N : ℕ} → Bounded T N → List T
items b = take b.len b.slots

-- The last item, if there is one.
abbrev pub last : {T : Type 0} → List T → Option T
last xs = slice_get xs (length xs - 1)
