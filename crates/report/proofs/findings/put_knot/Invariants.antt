use Rattle.std.proofs.Common.{◌≡◌, ◌++◌, vec_items}
use Rattle.settle.specs.Model.{knot_of}
use Rattle.report.specs.Lines.{knot_lines}
use Rattle.report.specs.Puts.{said_yes}
use Rattle.report.proofs.findings.put_knot.Given as goal

abbrev pub invariant-loop-number : goal.invariant-loop-number
invariant-loop-number l = vec_items l.out ≡ vec_items l.initial.out ++ knot_lines (λ i. said_yes (knot_of l.settled i)) l.number
