use Rattle.std.proofs.Common.{vec_items}
use Rattle.settle.specs.Runs.{rules_in, stage_of}
use Rattle.settle.proofs.Running.{SoFar}
use Rattle.settle.proofs.replay.calls.replay.Given as goal

abbrev pub invariant-loop-call : goal.invariant-loop-call
invariant-loop-call g l = SoFar (rules_in l.initial.sheet) (stage_of l.initial.sheet) l.sheet l.calls l.call-index (vec_items l.answers)
