use Rattle.std.proofs.Common.{◌≡◌, Ok, Err, rules}
use Rattle.sheet.specs.declared.fault.Refusal.TheVariants.{NoSuchSource, Contradictory}
use Rattle.settle.specs.Model.{read_of}
use Rattle.settle.proofs.Meant.{reads_since}
use Rattle.settle.proofs.settled.Settled.read.Goals as goal

pub returns-in-NoSource-clause-meant : goal.returns-in-NoSource-clause-meant
returns-in-NoSource-clause-meant g c = reads_since g.met.R.RuleSet.lawful c.args.self.now c.args.event (Err NoSuchSource) (search rules)

pub returns-in-Placed : goal.returns-in-Placed
returns-in-Placed g c =
    let held : Ok c.at.result ≡ read_of c.args.self.now c.args.event = search rules in
    record { held = held; meant = reads_since g.met.R.RuleSet.lawful c.args.self.now c.args.event _ held }

pub returns-in-Knotted : goal.returns-in-Knotted
returns-in-Knotted g c =
    let held : Err Contradictory ≡ read_of c.args.self.now c.args.event = search rules in
    record { held = held; meant = reads_since g.met.R.RuleSet.lawful c.args.self.now c.args.event _ held }
