use Rattle.std.proofs.Common.{◌≡◌, length}
use Rattle.timing.specs.Limits.{delay_limit}
use Rattle.timing.specs.Timetables.{times}
use Rattle.timing.specs.Places.{far_mark}
use Rattle.timing.specs.Rise.{Rising, room}
use Rattle.solver.specs.Asked.{asked}
use Rattle.solver.proofs.task.Task.rise.Given as goal

abbrev pub invariant-loop-y : goal.invariant-loop-y
invariant-loop-y g l = (length l.x ≡ 64) × Rising (asked l.self) (times l.x)

abbrev pub decreases-loop-y : goal.decreases-loop-y
decreases-loop-y g l = room (times l.x) (λ _. far_mark delay_limit) l.self.sheet.now.events
