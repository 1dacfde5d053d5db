use Rattle.std.proofs.Common.{◌≡◌, ◌≤◌, true, map, length, ap, ◌∙◌, arith, rules}
use Rattle.std.proofs.lemmas.List.{length-map}
use Rattle.image.specs.Cells.{word_of_cell}
use Rattle.image.specs.Images.{headed, decoded}
use Rattle.image.proofs.Gathering.{parsed_known, read_known, read_many}
use Rattle.image.proofs.reading.load.Goals as goal

pub returns-then-cells-gt-MOST_INSTRUCTIONS : goal.returns-then-cells-gt-MOST_INSTRUCTIONS
returns-then-cells-gt-MOST_INSTRUCTIONS c =
    let head : headed c.args.bytes.now ≡ true = search rules in
    read_many c.args.bytes.now (map word_of_cell c.in_ok-cells.cells.now) head c.in_ok-cells.ensures.cut c.in_ok-gather.ensures.all (omega (arith, length-map c.in_ok-cells.cells.now word_of_cell))

pub returns : goal.returns
returns c =
    let head : headed c.args.bytes.now ≡ true = search rules in
    let few : length (map word_of_cell c.in_ok-cells.cells.now) ≤ 4096 = omega (arith, length-map c.in_ok-cells.cells.now word_of_cell) in
    c.decode.ensures
    ∙ ap decoded (c.as_slice.ensures.value ∙ parsed_known (map word_of_cell c.in_ok-cells.cells.now) _ c.in_ok-gather.ensures few)
    ∙ read_known c.args.bytes.now (map word_of_cell c.in_ok-cells.cells.now) head c.in_ok-cells.ensures.cut c.in_ok-gather.ensures.all
