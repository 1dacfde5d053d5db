use Rattle.std.proofs.Common.{◌≡◌, take, Ok}
use Rattle.tables.specs.Stations.{station}
use Rattle.rules.specs.Verdicts.{all_rules, checks}
use Rattle.rules.proofs.judging.judge.Given as goal

abbrev pub invariant-loop-rule : goal.invariant-loop-rule
invariant-loop-rule l = (l.rule-items ≡ all_rules) × (checks (station l.timed.tables.now) (take l.rule-index all_rules) ≡ Ok tt)
