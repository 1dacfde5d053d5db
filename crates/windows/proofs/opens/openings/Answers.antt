use Rattle.std.proofs.Common.{sym, refl, rules}
use Rattle.tables.specs.Stations.{station}
use Rattle.windows.proofs.Filling.{openings_start, openings_more}
use Rattle.windows.proofs.opens.openings.Goals as goal

pub loop-t-init : goal.loop-t-init
loop-t-init c = (sym (openings_start (station c.args.tables.now)), refl)

pub loop-t-preserved : goal.loop-t-preserved
loop-t-preserved c = openings_more (station c.args.tables.now) c.loop-t.known c.loop-t.t c.latest_opening.result c.loop-t.invariant (search rules)
