-- Which tasks can be active together.
use Rattle.std.specs.Prelude.{◌≡◌, ℕ, ◌<◌, true, false, length, Some, Option}
use Rattle.tables.specs.Stations.{Station}
use Rattle.lookups.specs.Lookups.{module_at, mode_at, task_at, is_abstract, mode_of, module_of}
use Rattle.rules.specs.Rules.{writes_to}

-- An assignment of an active mode, or none, to each module is a configuration if a module that is owned is active only while its owner is.
abbrev pub Configuration : Station → (ℕ → Option ℕ) → Type 0
Configuration s active =
    (j m o : ℕ) → j < length s.modules → active j ≡ Some m → (module_at s j).owner ≡ Some o → active (mode_at s o).home ≡ Some o

-- A task is active where its module is active in its mode.
abbrev pub Active : Station → (ℕ → Option ℕ) → ℕ → Type 0
Active s active t = active (module_of s t) ≡ Some (mode_of s t)

-- In no configuration do two different concrete tasks that are active write one communicator.
abbrev pub RaceFree : Station → Type 0
RaceFree s =
    (active : ℕ → Option ℕ) → Configuration s active
    → (t u c : ℕ) → t < length s.tasks → u < length s.tasks
    → is_abstract (task_at s t).form ≡ false → is_abstract (task_at s u).form ≡ false
    → Active s active t → Active s active u → writes_to s t c ≡ true → writes_to s u c ≡ true → t ≡ u
