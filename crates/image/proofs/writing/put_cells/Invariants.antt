use Rattle.std.proofs.Common.{◌≡◌, ◌+◌, ◌*◌, ◌++◌, map, take, drop}
use Rattle.std.specs.List.{flat_map}
use Rattle.code.specs.Words.{word_of}
use Rattle.image.specs.Cells.{cell}
use Rattle.image.proofs.writing.put_cells.Given as goal

abbrev pub invariant-loop-k : goal.invariant-loop-k
invariant-loop-k l = l.buffer ≡ (take 4 l.initial.buffer ++ flat_map cell (map word_of (take l.k l.code))) ++ drop (4 + 6 * l.k) l.initial.buffer
