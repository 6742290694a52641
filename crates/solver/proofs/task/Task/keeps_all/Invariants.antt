use Rattle.std.proofs.Common.{◌≡◌}
use Rattle.timing.specs.Timetables.{times, allows}
use Rattle.solver.specs.Asked.{asked}
use Rattle.solver.specs.Tasks.{Testable}
use Rattle.solver.proofs.Terms.{Tally, bound_with}
use Rattle.solver.proofs.Passes.{bound_at, KeptBelow}
use Rattle.solver.proofs.task.Task.keeps_all.Given as goal

abbrev pub invariant-bounds : goal.invariant-bounds
invariant-bounds g l = KeptBelow l.self (times l.timetable) l.i

abbrev pub invariant-loop-j : goal.invariant-loop-j
invariant-loop-j g l =
    (bound_at l.bounds l.i ≡ bound_with l.to l.kind l.k l.terms)
    × Testable l.timetable (bound_with l.to l.kind l.k l.terms)
    × Tally (asked l.self).meaning l.kind l.k l.terms (allows (times l.timetable) l.to) l.j l.set
