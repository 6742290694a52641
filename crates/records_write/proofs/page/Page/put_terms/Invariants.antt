use Rattle.std.proofs.Common.{[], ◌∷◌, take}
use Rattle.std.specs.List.{flat_map}
use Rattle.timing.specs.Bounds.{term_of}
use Rattle.records_write.specs.Shown.{names_of, Puts}
use Rattle.records_write.specs.Writes.{after_tabs, term_fields}
use Rattle.records_write.proofs.page.Page.put_terms.Given as goal

abbrev pub invariant-loop-term : goal.invariant-loop-term
invariant-loop-term l =
    Puts l.initial.self (flat_map (λ t. after_tabs (term_fields (names_of l.initial.self) (term_of t ∷ []))) (take l.term-index l.terms)) l.self
