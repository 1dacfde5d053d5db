use Rattle.std.proofs.Common.{map}
use Rattle.bounded.specs.Items.{items}
use Rattle.image.specs.Cells.{word_of_cell}
use Rattle.image.proofs.Gathering.{Gathered}
use Rattle.image.proofs.reading.gather.Given as goal

abbrev pub invariant-loop-place : goal.invariant-loop-place
invariant-loop-place l = Gathered (map word_of_cell l.cells) l.place (items l.words)
