use Rattle.std.proofs.Common.{Ok, rules}
use Rattle.settle.proofs.Meant.{judges_since}
use Rattle.settle.proofs.settled.Settled.is_met.Goals as goal

pub returns-clause-meant : goal.returns-clause-meant
returns-clause-meant g c = judges_since g.met.R.RuleSet.lawful c.args.self.now c.args.to c.args.most (Ok c.is_some_and.result) (search rules)
