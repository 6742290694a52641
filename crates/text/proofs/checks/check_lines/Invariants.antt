use Rattle.std.proofs.Common.{◌≡◌, ◌+◌}
use Rattle.text.specs.Checks.{lines_bytes}
use Rattle.text.specs.Split.{lines_of}
use Rattle.text.specs.Reading.{to_come}
use Rattle.text.proofs.checks.check_lines.Given as goal

-- the fault of the lines is that of the lines still to come
abbrev pub invariant-loop-line : goal.invariant-loop-line
invariant-loop-line l = lines_bytes 1 (lines_of l.text) ≡ lines_bytes (l.line-iterator.line + 1) (to_come l.line-iterator)
