use Rattle.std.proofs.Common.{take}
use Rattle.std.specs.List.{flat_map}
use Rattle.text.specs.Spelled.{spelled}
use Rattle.records_write.specs.Shown.{Puts}
use Rattle.records_write.specs.Writes.{event_fields, line_of}
use Rattle.records_write.proofs.page.Page.put_events.Given as goal

abbrev pub invariant-loop-name : goal.invariant-loop-name
invariant-loop-name l = Puts l.initial.self (flat_map (λ name. line_of (event_fields (spelled name))) (take l.name-index l.names)) l.self
