use Rattle.std.proofs.Common.{sym, subst}
use Rattle.tables.specs.Stations.{station}
use Rattle.rules.proofs.Exactness.{exact}
use Rattle.rules.specs.Verdicts.{Exactly}
use Rattle.rules.proofs.judging.check.Goals as goal

pub returns : goal.returns
returns c =
    let s = station c.args.tables.now in
    record { value = c.judge.ensures; exact = subst (Exactly s) (sym c.judge.ensures) (exact s) }
