use Rattle.solver.proofs.Flags.{Tried}
use Rattle.solver.proofs.task.Sheet.knot.Given as goal

abbrev pub invariant-loop-i : goal.invariant-loop-i
invariant-loop-i g l = Tried (g.R.RuleSet.suffices l.self.rules.now) l.self.bounds.now l.standing l.i
