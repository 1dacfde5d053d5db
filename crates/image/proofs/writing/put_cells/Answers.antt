use Rattle.std.proofs.Common.{◌≤◌, length, ap, ◌∙◌, arith}
use Rattle.image.specs.Cells.{cell}
use Rattle.image.proofs.Placing.{cells_more}
use Rattle.image.proofs.writing.put_cells.Goals as goal

pub loop-k-preserved : goal.loop-k-preserved
loop-k-preserved c =
    let four : 4 ≤ length c.args.buffer.now = omega arith in
    cells_more c.loop-k.buffer c.args.buffer.now c.six_bytes.result c.put.new.buffer c.args.code.now c.loop-k.k c.loop-k-test.true four c.loop-k.invariant (c.six_bytes.ensures ∙ ap cell c.word.ensures.value) c.put.ensures
