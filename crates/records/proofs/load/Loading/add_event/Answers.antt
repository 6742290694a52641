use Rattle.std.proofs.Common.{ap, rules}
use Rattle.text.specs.Spelled.{spelled}
use Rattle.sheet.specs.Model.{sheet_of}
use Rattle.records.specs.Fields.{map_ok}
use Rattle.records.specs.Loadings.{state_in}
use Rattle.records.proofs.Calls.{event_is_added, With}
use Rattle.records.proofs.load.Loading.add_event.Goals as goal

pub returns-in-Ok : goal.returns-in-Ok
returns-in-Ok g c =
    record {
      adds =
          ap (map_ok (With (state_in c.args.self.now)))
          (event_is_added c.args.self.now.line (sheet_of c.args.self.now.sheet.now) (spelled c.args.name.now) _ _ (sheet_of c.event.new.self)
          c.requires.0 c.requires.1 c.as_bytes.ensures c.in-Ok.ensures.gives);
      same = search rules;
      line = search rules;
    }

pub returns-in-Err : goal.returns-in-Err
returns-in-Err g c =
    record {
      adds =
          ap (map_ok (With (state_in c.args.self.now)))
          (event_is_added c.args.self.now.line (sheet_of c.args.self.now.sheet.now) (spelled c.args.name.now) _ _ (sheet_of c.event.new.self)
          c.requires.0 c.requires.1 c.as_bytes.ensures c.in-Err.ensures.gives);
      same = search rules;
      line = search rules;
    }
