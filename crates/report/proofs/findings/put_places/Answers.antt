use Rattle.std.proofs.Common.{◌++◌, vec_items, sym, ap, ◌∙◌}
use Rattle.std.specs.List.{slice_get}
use Rattle.sheet.specs.Model.{sheet_of}
use Rattle.settle.specs.Model.{standing, read_of}
use Rattle.report.specs.Puts.{place_put}
use Rattle.report.proofs.LinesMore.{places_more, name_there}
use Rattle.report.proofs.findings.put_places.Goals as goal

pub loop-event-preserved : goal.loop-event-preserved
loop-event-preserved c =
    let names = (standing c.args.settled.now).names in
    let same = c.names-name-items.ensures ∙ ap (λ d. (sheet_of d).names) c.sheet.ensures in
    let there = name_there c.names-name-items.result.now names c.loop-event.event c.name-item.result same c.loop-event-test.true c.name-item.is in
    places_more names (read_of c.args.settled.now) _ _ _ c.loop-event.event c.loop-event.invariant
    (c.in_ok-put_place.ensures ∙ ap (λ o. vec_items c.loop-event.out ++ place_put o c.read.result) (sym there)
    ∙ ap (λ r. vec_items c.loop-event.out ++ place_put (slice_get names c.loop-event.event) r) c.read.ensures.held)
