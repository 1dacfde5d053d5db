use Rattle.std.proofs.Common.{◌<◌, arith}
use Rattle.std.proofs.ByRecursion.{All-from_get_or}
use Rattle.image.proofs.Backs.{store_back, written_back, one_image}
use Rattle.image.proofs.reading.read.Goals as goal

pub returns-clause-back : goal.returns-clause-back
returns-clause-back c = store_back c.load.result c.args.bytes.now (All-from_get_or (λ b. b < 256) c.args.bytes.now 0 (λ i h. omega (arith, c.type_inv.bytes i))) c.load.ensures

pub returns-clause-laws : goal.returns-clause-laws
returns-clause-laws c = (written_back, one_image)
