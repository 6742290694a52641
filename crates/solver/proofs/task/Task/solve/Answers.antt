use Rattle.std.proofs.Common.{rules}
use Rattle.std.proofs.lemmas.Bool.{false≢true}
use Rattle.solver.proofs.Summits.{summit_contradictory}
use Rattle.solver.proofs.task.Task.solve.Goals as goal

pub returns-else-keeps_all : goal.returns-else-keeps_all
returns-else-keeps_all g c =
    let keeps-not = c.if-keeps_all.ensures.1 in
    summit_contradictory c.args.self.now c.in_ok-top.top (g.met.R.RuleSet.lawful c.args.self.now.sheet.now.rules.now)
    (let summit = c.in_ok-top.ensures in search rules) (λ keeps. false≢true (search (rules, keeps-not)))
