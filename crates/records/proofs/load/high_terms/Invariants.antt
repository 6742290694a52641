use Rattle.std.proofs.Common.{◌≡◌, map, length, take}
use Rattle.timing.specs.Bounds.{term_of}
use Rattle.records.specs.Entries.{high_term}
use Rattle.records.proofs.load.high_terms.Given as goal

abbrev pub invariant-loop-input : goal.invariant-loop-input
invariant-loop-input l = (map term_of l.terms.items ≡ map high_term (take l.input-index l.inputs)) × (length l.terms.items ≡ l.input-index)
