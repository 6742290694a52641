use Rattle.std.proofs.Common.{length, Result, ap, ◌∙◌, rules}
use Rattle.sheet.specs.Model.{sheet_of}
use Rattle.records_fault.specs.declared.fault.LoadFault.{LoadFault}
use Rattle.records.specs.Fields.{map_ok}
use Rattle.records.specs.Entries.{limit_bound}
use Rattle.records.specs.Loadings.{state_in}
use Rattle.records.proofs.Calls.{alone_is_added, With}
use Rattle.records.proofs.load.Loading.add_bound.Goals as goal

pub returns : goal.returns
returns g c =
    record {
      adds =
          ap (λ (q : Result (Unit {0}) LoadFault). map_ok (λ _. With (state_in c.args.self.now) (sheet_of c.bound.new.self)) q) c.at_line.ensures
          ∙ alone_is_added (g.R.RuleSet.admitted c.args.self.now.sheet.now.rules) (length c.args.self.now.slots.now) c.args.self.now.line (state_in c.args.self.now)
          (limit_bound c.args.kind c.args.k c.args.to c.args.terms.now) c.bound.result (sheet_of c.bound.new.self) c.requires.0 c.bound.ensures.gives;
      same = search rules;
      line = search rules;
    }
