use Rattle.std.proofs.Common.{◌≡◌, ◌≢◌, ◌*◌, ◌/◌, length, [], ◌∷◌, ◌++◌, get_or, Some, None, vec_items, arith, rules}
use Rattle.std.specs.Simd.{first_chunks}
use Rattle.command.specs.Hex.{bytes_spelt}
use Rattle.command.proofs.Spelling.{spelt_by, spelt_more, spelt_wrong, spelt_left, spelt_all}
use Rattle.command.proofs.hex.bytes_of.Goals as goal

pub loop-high-preserved : goal.loop-high-preserved
loop-high-preserved c =
    let e : c.as_chunks.result.0.now ≡ first_chunks 2 (length c.args.text.now / 2) c.args.text.now = cc (c.as_chunks.ensures.front, c.as_bytes.ensures.value) in
    let p : spelt_by (get_or c.as_chunks.result.0.now c.loop-high.high-index []) ≡ Some c.in_ok-ok_or.field-0 = search rules in
    let i : vec_items c.push.new.self ≡ vec_items c.loop-high.out ++ c.in_ok-ok_or.field-0 ∷ [] = search rules in
    simp i (spelt_more c.args.text.now (vec_items c.loop-high.out) c.as_chunks.result.0.now c.loop-high.high-index c.in_ok-ok_or.field-0 e (omega arith) p c.loop-high.invariant)

pub returns-in_err-ok_or : goal.returns-in_err-ok_or
returns-in_err-ok_or c =
    let e : c.as_chunks.result.0.now ≡ first_chunks 2 (length c.args.text.now / 2) c.args.text.now = cc (c.as_chunks.ensures.front, c.as_bytes.ensures.value) in
    let p : spelt_by (get_or c.as_chunks.result.0.now c.loop-high.high-index []) ≡ None = search rules in
    let n : bytes_spelt c.args.text.now ≡ None = spelt_wrong c.args.text.now (vec_items c.loop-high.out) c.as_chunks.result.0.now c.loop-high.high-index e (omega arith) p c.loop-high.invariant in
    search rules

pub returns-then-is_empty : goal.returns-then-is_empty
returns-then-is_empty c =
    let none : length c.as_chunks.result.1.now ≡ 0 = search rules in
    spelt_all c.args.text.now (vec_items c.loop-high.out) (c.loop-high.high-index * 2) (omega arith) c.loop-high.invariant

pub returns-else-is_empty : goal.returns-else-is_empty
returns-else-is_empty c =
    let some : length c.as_chunks.result.1.now ≢ 0 = search rules in
    spelt_left c.args.text.now (vec_items c.loop-high.out) (c.loop-high.high-index * 2) (omega arith) c.loop-high.invariant
