-- What tables that keep every rule promise to whoever reads them.
use Rattle.std.specs.Prelude.{◌≡◌, ℕ, ◌<◌, length, Some, None, ◌≢◌, nat_eq}
use Rattle.tables.specs.Stations.{Station}
use Rattle.rules.specs.Activity.{RaceFree}
use Rattle.levels.specs.Levels.{Level, meetings, Over}
use Rattle.lookups.specs.Lookups.{module_at, mode_at, task_at, dependency_at, mode_of, module_of}
use Rattle.lookups.specs.Searches.{largest, smallest}
use Rattle.windows.specs.Windows.{release_offset, write_offset, opening, end}

pub record Laws (s : Station) : Type 0 where
  -- A module's start mode lies in it.
  pub start_inside : (i : ℕ) → i < length s.modules → (mode_at s (module_at s i).start).home ≡ i
  -- A module's owner exists and lies in a module of smaller number.
  pub owner_smaller : (i o : ℕ) → i < length s.modules → (module_at s i).owner ≡ Some o → (o < length s.modes) × ((mode_at s o).home < i)
  -- A module's level is at most 8.
  pub level_at_most_8 : (i : ℕ) → i < length s.modules → Level s 8 i
  -- The walk down from the top program meets every module exactly once.
  pub met_once : (i : ℕ) → i < length s.modules → meetings s i 8 None ≡ 1
  -- A mode of an owned module has the period of the owner.
  pub owner_period : (d o : ℕ) → d < length s.modes → (module_at s (mode_at s d).home).owner ≡ Some o → (mode_at s d).period ≡ (mode_at s o).period
  -- So it has the period of every mode above it, up to that of its top module.
  pub period_over : (e d : ℕ) → Over s e d → (mode_at s d).period ≡ (mode_at s e).period
  -- A task's opening is the largest of its release offset and the openings of the tasks that it depends on.
  pub opening_is :
      (t : ℕ) → t < length s.tasks
      → opening s t ≡ largest (λ j. nat_eq (dependency_at s j).to t) (λ j. opening s (dependency_at s j).task) (release_offset s t) (length s.dependencies)
  -- A task's end is the smallest of its write offsets, its mode's period, and the ends of the tasks that depend on it.
  pub end_is :
      (t : ℕ) → t < length s.tasks
      → end s t ≡ smallest (λ j. nat_eq (dependency_at s j).task t) (λ j. end s (dependency_at s j).to) (write_offset s t) (length s.dependencies)
  -- A task opens before it ends.
  pub opening_below_end : (t : ℕ) → t < length s.tasks → opening s t < end s t
  -- A dependency joins tasks of one mode, smaller number first.
  pub dependencies_ascend :
      (j : ℕ) → j < length s.dependencies
      → (mode_of s (dependency_at s j).task ≡ mode_of s (dependency_at s j).to) × ((dependency_at s j).task < (dependency_at s j).to)
  -- Tasks with one parent lie in different modes of one module.
  pub siblings_apart :
      (t u p : ℕ) → t < u → u < length s.tasks → (task_at s t).parent ≡ Some p → (task_at s u).parent ≡ Some p
      → (mode_of s t ≢ mode_of s u) × (module_of s t ≡ module_of s u)
  -- Tasks that can be active together never write one communicator.
  pub race_free : RaceFree s
