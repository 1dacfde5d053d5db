use Rattle.std.proofs.Common.{◌≡◌, ℕ, ◌<◌, get_or, None, Ok, Err, sym, ap, ◌∙◌, arith}
use Rattle.reader.proofs.Exact.{records_exact}
use Rattle.reader.proofs.Walking.{walk_step, walk_full, walk_stored, step_past}
use Rattle.reader.specs.Steps.{standing}
use Rattle.reader.specs.Walks.{records, outcome}
use Rattle.std.proofs.lemmas.Result.{err_from_is_err_and}
use Rattle.tables.specs.Stations.{station}
use Rattle.reader.proofs.walks.walk.Goals as goal

pub returns-in_err-next-clause-value : goal.returns-in_err-next-clause-value
returns-in_err-next-clause-value c =
    let p = err_from_is_err_and c.from_residual.result c.from_residual.ensures.1 in
    ap outcome (p.1 ∙ ap Err p.2)
    ∙ walk_step c.args.bytes.now (standing c.loop-next.cursor) (standing c.next.new.self) (station c.loop-next.tables) (Err c.in_err-next.field-0.0) c.loop-next.invariant c.in_err-next.ensures

pub loop-next-smaller : goal.loop-next-smaller
loop-next-smaller c =
    (step_past (standing c.loop-next.cursor) (standing c.next.new.self) c.in-Some.next (rw c.in-Some.is at c.in_ok-next.ensures)).0

pub loop-next-preserved : goal.loop-next-preserved
loop-next-preserved c =
    walk_stored c.args.bytes.now (standing c.loop-next.cursor) (standing c.next.new.self) (station c.loop-next.tables) (station c.add.new.self)
    c.in-Some.next c.in_ok-add.field-0 c.loop-next.invariant (rw c.in-Some.is at c.in_ok-next.ensures) c.in_ok-add.ensures.value c.in_ok-add.ensures.after

pub returns-in_err-add-clause-value : goal.returns-in_err-add-clause-value
returns-in_err-add-clause-value c =
    let p = err_from_is_err_and c.from_residual-in_err-add.result c.from_residual-in_err-add.ensures.1 in
    ap outcome (p.1 ∙ ap Err p.2)
    ∙ walk_full c.args.bytes.now (standing c.loop-next.cursor) (standing c.next.new.self) (station c.loop-next.tables)
    c.in-Some.next c.in_err-add.field-0.0 c.loop-next.invariant (rw c.in-Some.is at c.in_ok-next.ensures) c.in_err-add.ensures.value

pub returns : goal.returns
returns c =
    let small : (i : ℕ) → get_or c.args.bytes.now i 0 < 256 = λ i. omega (arith, (c.type_inv.bytes i).fits) in
    let value : Ok (station c.loop-next.tables) ≡ records c.args.bytes.now =
    walk_step c.args.bytes.now (standing c.loop-next.cursor) (standing c.next.new.self) (station c.loop-next.tables) (Ok None) c.loop-next.invariant (rw c.in_default.is at c.in_ok-next.ensures) in
    record { value = value; again = records_exact c.args.bytes.now (Ok (station c.loop-next.tables)) small (sym value) }
