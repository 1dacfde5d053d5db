use Rattle.std.proofs.Common.{◌≡◌, Some, None, Err, length, map, take, sym, ap, ◌∙◌, below_more, arith, rules}
use Rattle.std.proofs.lemmas.List.{length-set}
use Rattle.fault.specs.declared.Fault.TheVariants.{BadCode}
use Rattle.code.specs.Stores.{held}
use Rattle.code.specs.Words.{instruction_of}
use Rattle.image.proofs.Composing.{ill_placed, composed_more, composed}
use Rattle.image.proofs.reading.decode.Goals as goal

pub returns-in_err-code : goal.returns-in_err-code
returns-in_err-code c =
    let none : c.decode.result ≡ None = search rules in
    let refused : held c.from_residual.result ≡ Err (BadCode c.loop-place.place) = search rules in
    refused ∙ ill_placed c.args.words.now c.loop-place.place c.if-len-gt-MOST_INSTRUCTIONS.false (sym c.ends.ensures ∙ c.if-not-ends.false) c.loop-place-test.true c.loop-place.invariant.0 (sym none ∙ c.decode.ensures.value)

pub loop-place-preserved : goal.loop-place-preserved
loop-place-preserved c =
    let some : c.decode.result ≡ Some c.in_ok-code.field-0 = search rules in
    let p = composed_more c.args.words.now c.loop-place.code c.loop-place.place c.in_ok-code.field-0 (omega arith) c.loop-place-test.true (sym some ∙ c.decode.ensures.value) c.loop-place.invariant.1 in (
      below_more _ _ c.loop-place.invariant.0 p.0,
      p.1,
      length-set c.loop-place.code c.loop-place.place c.in_ok-code.field-0 ∙ c.loop-place.invariant.2,
    )

pub returns : goal.returns
returns c =
    let end : c.loop-place.place ≡ length c.args.words.now = omega arith in
    let taken : take (length c.args.words.now) c.loop-place.code ≡ map instruction_of (take (length c.args.words.now) c.args.words.now) = ap (λ n. take n c.loop-place.code) (sym end) ∙ c.loop-place.invariant.1 ∙ ap (λ n. map instruction_of (take n c.args.words.now)) end in
    c.from_array_len.ensures.value ∙ composed c.args.words.now (take (length c.args.words.now) c.loop-place.code) (λ j h. c.loop-place.invariant.0 j (omega arith)) taken
