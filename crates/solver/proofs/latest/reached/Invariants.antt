use Rattle.std.proofs.Common.{◌≡◌, take}
use Rattle.solver.specs.Permitted.{reaching}
use Rattle.solver.proofs.latest.reached.Given as goal

abbrev pub invariant-loop-i : goal.invariant-loop-i
invariant-loop-i l = l.set ≡ reaching l.time (take l.i l.sums)
