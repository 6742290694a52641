use Rattle.solver.proofs.Flags.{some_event, tried_more, tried_knot}
use Rattle.solver.proofs.task.Sheet.knot.Goals as goal

pub admit_one-requires : goal.admit_one-requires
admit_one-requires g c = some_event c.args.self.now.events c.args.self.now.bounds.now c.args.self.now.sheet c.loop-i.i c.loop-i-test.true

pub loop-i-preserved : goal.loop-i-preserved
loop-i-preserved g c =
    tried_more (g.R.RuleSet.suffices c.args.self.now.rules.now) c.args.self.now.bounds.now c.loop-i.standing c.loop-i.i c.loop-i-test.true c.args.self.now.count c.loop-i.invariant
    c.admit_one.result c.admit_one.ensures.one c.admit_one.ensures.none

pub returns-clause-knot : goal.returns-clause-knot
returns-clause-knot g c =
    tried_knot (g.R.RuleSet.suffices c.args.self.now.rules.now) c.args.self.now.bounds.now c.loop-i.standing c.loop-i.i c.loop-i-test.false c.loop-i.invariant
