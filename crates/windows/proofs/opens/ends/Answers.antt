use Rattle.std.proofs.Common.{◌≡◌, ◌+◌, ◌-◌, ◌≤◌, length, sym, refl, ap, ◌∙◌, arith, rules}
use Rattle.tables.specs.Stations.{station}
use Rattle.windows.specs.Windows.{ends_to}
use Rattle.windows.proofs.Filling.{ends_start, ends_more}
use Rattle.windows.proofs.opens.ends.Goals as goal

pub loop-t-init : goal.loop-t-init
loop-t-init c =
    let s = station c.args.tables.now in
    let none : length s.tasks - length c.tasks-t.result.now ≡ 0 = omega (arith, ap length c.tasks-t.ensures.value) in
    (sym (ap (ends_to s) none ∙ ends_start s), refl)

pub loop-t-preserved : goal.loop-t-preserved
loop-t-preserved c =
    let s = station c.args.tables.now in
    let t = c.loop-t.t in
    let inside : t ≤ length s.tasks = omega (arith, ap length c.tasks-t.ensures.value) in
    let next : length s.tasks - t + 1 ≡ length s.tasks - (t - 1) = omega arith in
    let filled = ends_more s c.loop-t.known (length s.tasks - t) (t - 1) c.earliest_end.result c.loop-t.invariant (omega arith) (search rules) in
    (filled.0 ∙ ap (ends_to s) next, filled.1)
