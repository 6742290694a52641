use Rattle.std.proofs.Common.{Err, rules, arith}
use Rattle.std.proofs.lemmas.Grind.{common_steps}
use Rattle.sheet.specs.declared.fault.Refusal.TheVariants.{NotContradictory}
use Rattle.settle.proofs.Meant.{knots_since}
use Rattle.settle.proofs.settled.Settled.knot.Goals as goal

pub returns-in-Placed-clause-meant : goal.returns-in-Placed-clause-meant
returns-in-Placed-clause-meant g c = knots_since g.met.R.RuleSet.lawful c.args.self.now c.args.bound (Err NotContradictory) (search rules)

pub returns-in-Knotted-clause-meant : goal.returns-in-Knotted-clause-meant
returns-in-Knotted-clause-meant g c = knots_since g.met.R.RuleSet.lawful c.args.self.now c.args.bound c.ok_or.result (grind (arith, common_steps))
