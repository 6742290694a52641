use Rattle.records.proofs.Meanings.{linear_means, delay_means, limit_means}
use Rattle.records.proofs.load.load.Goals as goal

pub returns-in-Ok-clause-linear : goal.returns-in-Ok-clause-linear
returns-in-Ok-clause-linear g c = linear_means (g.met.R.RuleSet.lawful c.args.sheet.now.rules)

pub returns-in-Ok-clause-delay : goal.returns-in-Ok-clause-delay
returns-in-Ok-clause-delay g c = delay_means (g.met.R.RuleSet.lawful c.args.sheet.now.rules)

pub returns-in-Ok-clause-limit : goal.returns-in-Ok-clause-limit
returns-in-Ok-clause-limit g c = limit_means (g.R.RuleSet.suffices c.args.sheet.now.rules)

pub returns-in-Err-clause-linear : goal.returns-in-Err-clause-linear
returns-in-Err-clause-linear g c = linear_means (g.met.R.RuleSet.lawful c.args.sheet.now.rules)

pub returns-in-Err-clause-delay : goal.returns-in-Err-clause-delay
returns-in-Err-clause-delay g c = delay_means (g.met.R.RuleSet.lawful c.args.sheet.now.rules)

pub returns-in-Err-clause-limit : goal.returns-in-Err-clause-limit
returns-in-Err-clause-limit g c = limit_means (g.R.RuleSet.suffices c.args.sheet.now.rules)
