use Rattle.std.proofs.Common.{refl, ap, ◌∙◌, inl, inr, w64, SFits, rules}
use Rattle.std.proofs.lemmas.Int.{to_z-of_z}
use Rattle.sheet.specs.Model.{sheet_of}
use Rattle.settle.specs.Model.{standing, read_of, verdict_of}
use Rattle.report.proofs.LinesMore.{need_more}
use Rattle.report.proofs.findings.put_need.Goals as goal

pub returns-in_ok-put_places : goal.returns-in_ok-put_places
returns-in_ok-put_places c =
    let need = c.args.need.now in
    let t = c.args.settled.now in
    let from = c.in-Some-Some.ensures.lookup in
    let to = c.in-Some-Some.ensures'.lookup in
    let fits : SFits w64 need.most = search rules in
    need_more need c.names-names.result.now (standing t) (read_of t) c.in-Some-Some.from.now c.in-Some-Some.to.now c.in-Ok-Ok.reading c.in-Ok-Ok.met
    (c.names-names.ensures ∙ ap (λ d. (sheet_of d).names) c.sheet.ensures) from.3.0 from.1 to.3.0 to.1
    c.in-Ok-Ok.ensures.held (c.in-Ok-Ok.ensures'.held ∙ ap (verdict_of t need.to) (to_z-of_z w64 need.most fits))
    _ _ _ c.in_ok-put_verdict.ensures (inr (c.if-not-met.true, c.in_ok-put_places.ensures))

pub returns-else-not-met : goal.returns-else-not-met
returns-else-not-met c =
    let need = c.args.need.now in
    let t = c.args.settled.now in
    let from = c.in-Some-Some.ensures.lookup in
    let to = c.in-Some-Some.ensures'.lookup in
    let fits : SFits w64 need.most = search rules in
    need_more need c.names-names.result.now (standing t) (read_of t) c.in-Some-Some.from.now c.in-Some-Some.to.now c.in-Ok-Ok.reading c.in-Ok-Ok.met
    (c.names-names.ensures ∙ ap (λ d. (sheet_of d).names) c.sheet.ensures) from.3.0 from.1 to.3.0 to.1
    c.in-Ok-Ok.ensures.held (c.in-Ok-Ok.ensures'.held ∙ ap (verdict_of t need.to) (to_z-of_z w64 need.most fits))
    _ _ _ c.in_ok-put_verdict.ensures (inl (c.if-not-met.false, refl))
