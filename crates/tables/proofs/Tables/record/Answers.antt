use Rattle.std.proofs.Common.{ap, ◌∙◌}
use Rattle.tables.proofs.Numbering.{record_placed}
use Rattle.tables.specs.Places.{record_at}
use Rattle.tables.specs.Stations.{station}
use Rattle.tables.proofs.Tables.record.Goals as goal

pub returns : goal.returns
returns c =
    c.at.ensures ∙ ap (record_at (station c.args.self.now)) c.place.ensures ∙ record_placed (station c.args.self.now) c.args.number
