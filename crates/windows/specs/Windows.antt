-- When a task may be out: from its opening to its end, counted from the start of its mode's round.
use Rattle.std.specs.Prelude.{ℕ, zero, suc, ◌-◌, min, max, List, map, length, replicate, filter, fold, ◌==◌, slice_index, slice_set}
use Rattle.tables.specs.Stations.{Station}
use Rattle.lookups.specs.Lookups.{mode_at, mode_of}

-- The latest offset of the reads of a task, or 0.
abbrev pub release_offset : Station → ℕ → ℕ
release_offset s t = fold max 0 (map (λ r. r.offset) (filter (λ r. r.task == t) s.reads))

-- The earliest offset of the writes of a task, at most its mode's period.
abbrev pub write_offset : Station → ℕ → ℕ
write_offset s t = fold min (mode_at s (mode_of s t)).period (map (λ w. w.offset) (filter (λ w. w.task == t) s.writes))

-- The opening of a task by the openings of others: the largest of its release offset and those of the tasks that it depends on.
abbrev pub opening_by : Station → List ℕ → ℕ → ℕ
opening_by s os t = fold max (release_offset s t) (map (λ d. slice_index os d.task) (filter (λ d. d.to == t) s.dependencies))

-- The end of a task by the ends of others: the smallest of its write offsets, its mode's period, and the ends of the tasks that depend on it.
abbrev pub end_by : Station → List ℕ → ℕ → ℕ
end_by s es t = fold min (write_offset s t) (map (λ d. slice_index es d.to) (filter (λ d. d.task == t) s.dependencies))

-- The openings of the first n tasks, taken ascending, since a task depends only on tasks of smaller number.
unfoldable pub openings_to : Station → ℕ → List ℕ
openings_to s zero = replicate 64 0
openings_to s (suc n) = slice_set (openings_to s n) n (opening_by s (openings_to s n) n)

-- The ends of the last n tasks, taken descending.
unfoldable pub ends_to : Station → ℕ → List ℕ
ends_to s zero = replicate 64 0
ends_to s (suc n) = slice_set (ends_to s n) (length s.tasks - suc n) (end_by s (ends_to s n) (length s.tasks - suc n))

abbrev pub openings : Station → List ℕ
openings s = openings_to s (length s.tasks)

abbrev pub ends : Station → List ℕ
ends s = ends_to s (length s.tasks)

-- The opening and the end of a task.
abbrev pub opening : Station → ℕ → ℕ
opening s t = slice_index (openings s) t

abbrev pub end : Station → ℕ → ℕ
end s t = slice_index (ends s) t
