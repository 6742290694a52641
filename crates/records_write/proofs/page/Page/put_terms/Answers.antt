use Rattle.std.proofs.Common.{ℕ, List, [], ◌∷◌, get_or, pos, refl}
use Rattle.timing.specs.Bounds.{term_of}
use Rattle.timing.specs.declared.bound.Term.{Term}
use Rattle.records_write.specs.Shown.{names_of}
use Rattle.records_write.specs.Writes.{after_tabs, term_fields}
use Rattle.records_write.proofs.Puts.{puts_none, puts_same, pieces_more, pieces_all, terms_joined}
use Rattle.records_write.proofs.page.Page.put_terms.Goals as goal

abbrev none : Term
none = record { from = 0; delay = pos 0 }

abbrev fields : List (List ℕ) → Term → List ℕ
fields names term = after_tabs (term_fields names (term_of term ∷ []))

pub loop-term-init : goal.loop-term-init
loop-term-init c = puts_none c.args.self.now

pub loop-term-preserved : goal.loop-term-preserved
loop-term-preserved c =
    pieces_more fields c.args.terms.now c.loop-term.term-index (get_or c.args.terms.now c.loop-term.term-index none) none c.loop-term-test.true refl
    c.loop-term.invariant c.put_term.ensures

pub returns : goal.returns
returns c =
    let names = names_of c.args.self.now in
    puts_same (terms_joined names c.args.terms.now)
    (pieces_all (fields names) c.args.terms.now c.loop-term.term-index c.loop-term-test.false c.loop-term.invariant)
