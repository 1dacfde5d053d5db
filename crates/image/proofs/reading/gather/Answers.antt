use Rattle.std.proofs.Common.{◌≡◌, ◌++◌, ◌∷◌, [], Some, None, Err, cond, map, refl, sym, ap, ◌∙◌, subst, MatchResult, arith, rules}
use Rattle.std.proofs.lemmas.List.{length-map, get_or-map}
use Rattle.fault.specs.declared.Fault.TheVariants.{NoImage}
use Rattle.bounded.specs.Items.{items}
use Rattle.image.specs.Cells.{word_of_cell}
use Rattle.image.specs.Parsing.{Parsed, Stopped}
use Rattle.image.proofs.Gathering.{gathered_more, gathered_all, gathered_stop}
use Rattle.image.proofs.reading.gather.Goals as goal

pub loop-place-init : goal.loop-place-init
loop-place-init c = ([], refl, c.requires)

pub returns-in_err-ok_or : goal.returns-in_err-ok_or
returns-in_err-ok_or c =
    let none : c.word.result ≡ None = search rules in
    let refused : c.from_residual.result ≡ Err (NoImage c.loop-place.place) = search rules in
    let stopped : Stopped (map word_of_cell c.args.cells.now) (NoImage c.loop-place.place) =
    gathered_stop (map word_of_cell c.args.cells.now) c.loop-place.place (items c.loop-place.words) (omega (arith, length-map c.args.cells.now word_of_cell))
    (get_or-map word_of_cell c.args.cells.now c.loop-place.place [] None c.loop-place-test.true ∙ sym c.word.ensures ∙ none)
    c.loop-place.invariant in
    subst (λ r. MatchResult r (λ _. Parsed (map word_of_cell c.args.cells.now) (items c.loop-place.words)) (λ f. Stopped (map word_of_cell c.args.cells.now) f)) (sym refused) stopped

pub loop-place-preserved : goal.loop-place-preserved
loop-place-preserved c =
    let some : c.word.result ≡ Some c.in_ok-ok_or.field-0 = search rules in
    gathered_more (map word_of_cell c.args.cells.now) c.loop-place.place c.in_ok-ok_or.field-0 (items c.loop-place.words) (items c.push.new.self) (omega (arith, length-map c.args.cells.now word_of_cell))
    (get_or-map word_of_cell c.args.cells.now c.loop-place.place [] None c.loop-place-test.true ∙ sym c.word.ensures ∙ some)
    (c.push.ensures.after ∙ ap (λ b. cond b (items c.loop-place.words ++ (c.in_ok-ok_or.field-0 ∷ [])) (items c.loop-place.words)) c.push.ensures.value)
    c.loop-place.invariant

pub returns : goal.returns
returns c =
    gathered_all (map word_of_cell c.args.cells.now) c.loop-place.place (items c.loop-place.words) (omega (arith, length-map c.args.cells.now word_of_cell)) c.loop-place.invariant
