use Rattle.std.proofs.Common.{◌≡◌, ◌++◌, vec_items}
use Rattle.settle.specs.Model.{standing, read_of}
use Rattle.report.specs.Puts.{places_put}
use Rattle.report.proofs.findings.put_places.Given as goal

abbrev pub invariant-loop-event : goal.invariant-loop-event
invariant-loop-event l = vec_items l.out ≡ vec_items l.initial.out ++ places_put (standing l.settled).names (read_of l.settled) l.event
