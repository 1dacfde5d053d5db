-- Words that are marks of kinds.
use Rattle.std.specs.Prelude.{ℕ, Bool, List, Option, nat_eq}
use Rattle.std.specs.Cmp.Lexicographic.{pointwise}
use Rattle.std.specs.List.{find}
use Rattle.format.specs.Records.{kinds, mark}
use Rattle.tables.specs.declared.records.Kind.{Kind}

-- A word is a kind's mark if it has its two letters and no other.
abbrev pub is_mark : List ℕ → Kind → Bool
is_mark word k = pointwise nat_eq word (mark k)

-- The kind whose mark a word is.
abbrev pub kind_named : List ℕ → Option Kind
kind_named word = find (is_mark word) kinds
