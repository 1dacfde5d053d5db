use Rattle.std.proofs.Common.{◌≡◌, ◌-◌, true, ◌&&◌, eqb, length, Some, sym, ◌∙◌, rules}
use Rattle.tables.specs.Stations.{station}
use Rattle.lookups.proofs.Searching.{any_none, any_more, any_stop}
use Rattle.levels.proofs.Levelling.{meets_none, meets_is}
use Rattle.levels.specs.Levels.{meets}
use Rattle.lookups.specs.Lookups.{mode_at}
use Rattle.lookups.specs.Searches.{any}
use Rattle.levels.proofs.walk.+walk_down.Goals as goal

pub module_meets-loop-d-init : goal.module_meets-loop-d-init
module_meets-loop-d-init t c = search (rules, any_none)

pub module_meets-returns-then-mode_meets : goal.module_meets-returns-then-mode_meets
module_meets-returns-then-mode_meets t c =
    let s = station c.args.tables.now in
    let found : true ≡ any (λ d. eqb (mode_at s d).home c.args.m && meets s c.args.target (c.args.levels - 1) (Some d)) (length s.modes) =
    any_stop _ _ _ c.loop-d.invariant (search rules) (search rules) in
    search rules

pub module_meets-loop-d-preserved : goal.module_meets-loop-d-preserved
module_meets-loop-d-preserved t c = search (rules, any_more)

pub program_meets-returns-then-levels-eq0 : goal.program_meets-returns-then-levels-eq0
program_meets-returns-then-levels-eq0 t c = search (rules, meets_none)

pub program_meets-loop-m-init : goal.program_meets-loop-m-init
program_meets-loop-m-init t c = search (rules, any_none)

pub program_meets-returns-then-module_meets : goal.program_meets-returns-then-module_meets
program_meets-returns-then-module_meets t c =
    any_stop _ _ _ c.loop-m.invariant (search rules) (search rules) ∙ sym (meets_is _ _ _ _ (search rules))

pub program_meets-loop-m-preserved : goal.program_meets-loop-m-preserved
program_meets-loop-m-preserved t c = search (rules, any_more)

pub program_meets-returns : goal.program_meets-returns
program_meets-returns t c = search (rules, meets_is)
