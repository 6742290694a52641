use Rattle.std.proofs.Common.{sym, ap, ◌∙◌, rules, ℕ, List}
use Rattle.std.specs.List.{flat_map}
use Rattle.std.proofs.lemmas.List.{take_all}
use Rattle.std.proofs.lemmas.List.Folds.{flat_map-map}
use Rattle.text.specs.Spelled.{spelled}
use Rattle.text.specs.declared.name.Name.{Name}
use Rattle.records_write.specs.Writes.{event_fields, line_of}
use Rattle.records_write.proofs.Puts.{puts_none, puts_same, pieces_more, pieces_all}
use Rattle.records_write.proofs.page.Page.put_events.Goals as goal

abbrev line : Name → List ℕ
line name = line_of (event_fields (spelled name))

pub loop-name-init : goal.loop-name-init
loop-name-init c = puts_none c.args.self.now

pub loop-name-preserved : goal.loop-name-preserved
loop-name-preserved c =
    pieces_more (λ _. line) _ c.loop-name.name-index c.name-item.result c.name-item.result c.loop-name-test.true c.name-item.is
    c.loop-name.invariant c.put_event.ensures

pub returns : goal.returns
returns c =
    let told = pieces_all line _ c.loop-name.name-index c.loop-name-test.false c.loop-name.invariant in
    puts_same (ap (flat_map line) (search (rules, take_all)) ∙ sym (flat_map-map (λ name. line_of (event_fields name)) spelled c.args.self.now.names.now)) told
