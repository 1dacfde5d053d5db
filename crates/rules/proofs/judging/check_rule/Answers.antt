use Rattle.std.proofs.Common.{rules}
use Rattle.rules.specs.Verdicts.{checked}
use Rattle.rules.proofs.judging.check_rule.Goals as goal

pub returns-in-None : goal.returns-in-None
unfolding checked
returns-in-None c = search rules

pub returns-in-Some : goal.returns-in-Some
unfolding checked
returns-in-Some c = search rules
