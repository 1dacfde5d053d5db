use Rattle.std.proofs.Common.{rules, ◌≡◌, max, map, fold, cond, nat_eq, ◌∙◌}
use Rattle.tables.specs.Stations.{station}
use Rattle.windows.proofs.Latest.{latest_some}
use Rattle.windows.proofs.opens.release_offset.Goals as goal

pub returns : goal.returns
returns c =
    let latest : c.fold.result ≡ fold max 0 (map (λ r. cond (nat_eq r.task c.args.t) r.offset 0) (station c.args.tables.now).reads) = search rules in
    latest ∙ latest_some (λ r. nat_eq r.task c.args.t) (λ r. r.offset) 0 (station c.args.tables.now).reads
