use Rattle.rules.proofs.Keeping.{laws}
use Rattle.tables.proofs.Bounds.{store_few}
use Rattle.tables.specs.Stations.{station}
use Rattle.reader.proofs.Accepted.tables.Goals as goal

pub returns-clause-laws : goal.returns-clause-laws
returns-clause-laws c = laws (station c.args.self.now.tables) c.args.self.now.kept (store_few c.args.self.now.tables)
