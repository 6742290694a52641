use Rattle.std.proofs.Common.{◌≡◌, map, drop}
use Rattle.timing.specs.Bounds.{term_of}
use Rattle.sheet.specs.Plain.{terms_fault}
use Rattle.sheet.proofs.drawn.methods.check_terms.Given as goal

abbrev pub invariant-loop-term : goal.invariant-loop-term
invariant-loop-term l = terms_fault l.events (map term_of (drop l.term-index l.terms)) ≡ terms_fault l.events (map term_of l.terms)
