-- What a term and a bound of the program stand for.
use Rattle.std.specs.Prelude.{map, take}
use Rattle.timing.specs.declared.bound.Term.{Term}
use Rattle.timing.specs.declared.bound.Bound.{Bound}
use Rattle.timing.specs.Model.{TermModel, BoundModel}

abbrev pub term_of : Term → TermModel
term_of t = record { from = t.from; delay = t.delay }

abbrev pub bound_of : Bound → BoundModel
bound_of b = record { to = b.to; kind = b.kind; k = b.k; terms = map term_of (take b.count b.terms) }
