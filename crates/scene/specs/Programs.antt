-- Modules, the programs that they form, and which of them are active.
use Rattle.std.specs.Prelude.{ℕ, zero, suc, Bool, false, cond, ◌||◌, List, length, Some, None, filter, Option, ◌==◌, slice_index_or}
use Rattle.std.specs.List.{range_with_len}
use Rattle.tables.specs.Stations.{Station}
use Rattle.levels.specs.Levels.{same_owner}
use Rattle.lookups.specs.Lookups.{module_at, mode_at}
use Rattle.scene.specs.Tabs.{tab}

-- The program of an owner: the modules that it owns, ascending; the top program for none.
abbrev pub program : Station → Option ℕ → List ℕ
program s o = filter (λ j. same_owner (module_at s j).owner o) (range_with_len 0 (length s.modules))

-- How many levels there can be.
abbrev pub levels : ℕ
levels = 8

-- Going up from an owner by at most n levels, a mode of module j is met.
unfoldable pub above : Station → ℕ → ℕ → Option ℕ → Bool
above s j zero o = false
above s j (suc n) None = false
above s j (suc n) (Some o) = (mode_at s o).home == j || above s j n (module_at s (mode_at s o).home).owner

-- Module k lies beneath module j: a mode of j owns it, or owns one that it lies beneath.
abbrev pub beneath : Station → ℕ → ℕ → Bool
beneath s j k = above s j levels (module_at s k).owner

-- The active modes after mode m became active: all beneath its module rests.
unfoldable pub activated : Station → ℕ → List (Option ℕ) → List (Option ℕ)
activated s m active =
    let home : ℕ = (mode_at s m).home in
    tab 32 (λ k. cond (k == home) (Some m) (cond (beneath s home k) None (slice_index_or active k None)))
