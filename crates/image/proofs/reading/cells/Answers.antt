use Rattle.std.proofs.Common.{◌≡◌, ◌*◌, length, drop, arith, rules}
use Rattle.image.proofs.Cutting.{cut}
use Rattle.image.proofs.reading.cells.Goals as goal

pub returns-clause-cut : goal.returns-clause-cut
returns-clause-cut c =
    let body : c.in_ok-m.body.now ≡ drop 4 c.args.bytes.now = search rules in
    let size : length c.in_ok-m.body.now ≡ 6 * c.from-count.result = omega arith in
    rw (c.as_chunks.ensures.front, body) (cut c.from-count.result (drop 4 c.args.bytes.now) (rw (← body) size))
