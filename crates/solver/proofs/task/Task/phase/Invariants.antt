use Rattle.std.proofs.Common.{◌≡◌, ◌≤◌, length}
use lib.Signed.{le_z}
use Rattle.timing.specs.Timetables.{times}
use Rattle.timing.specs.Rise.{Phase, phase_sum, room}
use Rattle.solver.specs.Asked.{asked}
use Rattle.solver.proofs.Terms.{Tally, Formed, bound_with}
use Rattle.solver.proofs.Passes.{Pass}
use Rattle.solver.proofs.Lowering.{Met}
use Rattle.solver.proofs.task.Task.phase.Given as goal

abbrev pub invariant-rounds : goal.invariant-rounds
invariant-rounds g l = (length l.y ≡ 64) × (l.first ≤ length l.self.sheet.now.bounds.now) × Phase (asked l.self) (times l.x) (times l.y)

abbrev pub decreases-rounds : goal.decreases-rounds
decreases-rounds g l = room (times l.x) (times l.y) l.self.sheet.now.events

abbrev pub invariant-bounds : goal.invariant-bounds
invariant-bounds g l = Pass l.self l.x l.initial.y l.y l.first l.step

abbrev pub invariant-loop-j : goal.invariant-loop-j
invariant-loop-j g l =
    Met l.self l.i (bound_with l.to l.kind l.k l.terms)
    × Tally (asked l.self).meaning l.kind l.k l.terms (λ m. le_z (times l.y l.to) (phase_sum (times l.x) (times l.y) l.to m)) l.j l.set
    × Formed (phase_sum (times l.x) (times l.y) l.to) l.terms l.j l.sums
