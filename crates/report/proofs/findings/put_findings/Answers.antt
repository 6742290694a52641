use Rattle.std.proofs.Common.{ℕ, List, length, sym, ap, ◌∙◌, subst, inr}
use Rattle.rules.specs.Sets.{vote_enough}
use Rattle.sheet.specs.Model.{sheet_of}
use Rattle.sheet.specs.Plain.{PlainSheet}
use Rattle.sheet.proofs.Standing.{sheet_is}
use Rattle.settle.specs.Meaning.{Consistent}
use Rattle.settle.specs.Model.{knot_of}
use Rattle.report.specs.Lines.{knot_lines}
use Rattle.report.specs.Puts.{said_yes}
use Rattle.report.specs.Report.{Findings, NeedsPrinted}
use Rattle.report.proofs.FromFound.{knot_found, keeping_found}
use Rattle.report.proofs.findings.put_findings.Goals as goal

pub returns-then-is_contradictory : goal.returns-then-is_contradictory
returns-then-is_contradictory c =
    let t = c.settle-settled.result in
    let said = sym c.is_contradictory.ensures ∙ c.if-is_contradictory.true in
    let found = knot_found (sheet_of t.drawn) c.args.needs.now t.source t.found c.settle-settled.ensures.right said in
    let text : List ℕ = knot_lines (λ (i : ℕ). said_yes (knot_of t i)) (length (sheet_of t.drawn).bounds) in
    (text, subst (λ (s : PlainSheet). Findings s c.args.needs.now text) (ap sheet_of c.settle-settled.ensures.moved) found, c.in_ok-put_knot.ensures)

pub put_needs-requires-clause-some : goal.put_needs-requires-clause-some
put_needs-requires-clause-some c =
    let t = c.settle-settled.result in
    let said = sym c.is_contradictory.ensures ∙ c.if-is_contradictory.false in
    let some = keeping_found (sheet_of t.drawn) t.source t.found (sheet_is t.drawn) c.settle-settled.ensures.from c.settle-settled.ensures.right said in
    subst (λ (s : PlainSheet). Consistent vote_enough s.bounds) (sym (ap sheet_of c.reopen.ensures)) some

pub returns : goal.returns
returns c =
    let t = c.settle-settled.result in
    let said = sym c.is_contradictory.ensures ∙ c.if-is_contradictory.false in
    let some = keeping_found (sheet_of t.drawn) t.source t.found (sheet_is t.drawn) c.settle-settled.ensures.from c.settle-settled.ensures.right said in
    let moved = ap sheet_of c.settle-settled.ensures.moved in
    let whole = ap sheet_of c.reopen.ensures ∙ moved in
    let put = c.in_ok-put_needs.ensures in (
      put.0,
      inr (subst (λ (s : PlainSheet). Consistent vote_enough s.bounds) moved some, subst (λ (s : PlainSheet). NeedsPrinted s c.args.needs.now put.0) whole put.1),
      put.2,
    )
