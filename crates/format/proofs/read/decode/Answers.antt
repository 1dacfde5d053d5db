use Rattle.std.proofs.Common.{◌≡◌, ℕ, ◌<◌, get_or, subst, arith, rules}
use Rattle.format.proofs.Back.{written_again}
use Rattle.format.specs.Promises.{WrittenAgain}
use Rattle.format.specs.Records.{record_read}
use Rattle.format.proofs.read.decode.Goals as goal

pub returns-clause-again : goal.returns-clause-again
returns-clause-again c =
    let small : (i : ℕ) → get_or c.args.bytes.now i 0 < 256 = λ i. omega (arith, (c.type_inv.bytes i).fits) in
    let value : record_read c.args.bytes.now ≡ c.fields.result = search rules in
    subst (WrittenAgain c.args.bytes.now) value (written_again c.args.bytes.now small)
