use Rattle.std.proofs.Common.{true, map, replicate, subst, arith}
use Rattle.timing.specs.Bounds.{bound_of}
use Rattle.timing.specs.Timetables.{Contradictory}
use Rattle.timing.specs.Knots.{Knot}
use Rattle.solver.specs.Tasks.{flag, taking_part}
use Rattle.solver.specs.Solutions.{AtPlaces}
use Rattle.settle.proofs.Finding.{sheet_given, bounds_given, placed-right, knotted-right}
use Rattle.settle.proofs.settled.methods.find.Goals as goal

pub invariant_of-sheet : goal.invariant_of-sheet
invariant_of-sheet g c =
    let d = c.args.drawn.now in
    record {
      sheet = sheet_given d c.event_count-events.result c.event_count-events.ensures c.bounds.result.now c.bounds.ensures;
      count = bounds_given d c.event_count-events.result c.event_count-events.ensures c.bounds.result.now c.bounds.ensures;
    }

pub returns-in-Some : goal.returns-in-Some
returns-in-Some g c =
    let d = c.args.drawn.now in
    let bs = c.bounds.result.now in
    placed-right d c.event_count-events.result c.event_count-events.ensures bs c.bounds.ensures
    (g.R.RuleSet.suffices d.rules) c.args.source (omega arith) c.in-Some.places
    (subst (λ r. AtPlaces (g.R.RuleSet.suffices r) c.event_count-events.result c.args.source (taking_part (replicate 256 true) bs) c.in-Some.places)
    c.rules.ensures c.in-Some.ensures)

pub returns-in-None : goal.returns-in-None
returns-in-None g c =
    let d = c.args.drawn.now in
    let bs = c.bounds.result.now in
    knotted-right d c.event_count-events.result c.event_count-events.ensures bs c.bounds.ensures
    (g.R.RuleSet.suffices d.rules) c.args.source (omega arith) c.knot.result
    (subst (λ r. Contradictory (g.R.RuleSet.suffices r) (taking_part (replicate 256 true) bs)) c.rules.ensures c.in-None.ensures)
    (subst (λ l. Knot (g.R.RuleSet.suffices d.rules) l (flag c.knot.result)) c.bounds.ensures
    (subst (λ r. Knot (g.R.RuleSet.suffices r) (map bound_of bs) (flag c.knot.result)) c.rules.ensures c.knot.ensures.knot))
