use Rattle.std.proofs.Common.{take, Ok}
use Rattle.records.specs.Entries.{some_bounds, low_bounds}
use Rattle.records.specs.Loadings.{AddsSaid}
use Rattle.records.proofs.load.Loading.add_lows.Given as goal

abbrev pub invariant-loop-input : goal.invariant-loop-input
invariant-loop-input g l =
    AddsSaid (some_bounds (low_bounds l.to (take l.input-index l.inputs))) (Ok tt) l.initial.self l.self
