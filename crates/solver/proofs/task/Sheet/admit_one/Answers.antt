use Rattle.std.proofs.Common.{rules}
use Rattle.solver.specs.Tasks.{taking_part}
use Rattle.solver.proofs.Flags.{one_of, none_of}
use Rattle.solver.proofs.task.Sheet.admit_one.Goals as goal

pub returns : goal.returns
returns g c =
    let E = g.R.RuleSet.suffices c.args.self.now.rules.now in
    let n = c.args.self.now.events in
    let bs = taking_part c.args.standing.now c.args.self.now.bounds.now in
    record {
      one = λ on. one_of E n 0 bs c.solve.result c.solve.ensures (search (rules, on));
      none = λ off. none_of E n 0 bs c.solve.result c.solve.ensures (search (rules, off));
    }
