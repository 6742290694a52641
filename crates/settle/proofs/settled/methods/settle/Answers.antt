use Rattle.sheet.specs.Model.{sheet_of}
use Rattle.sheet.proofs.Standing.{sheet_is}
use Rattle.settle.proofs.Promises.{promise_from}
use Rattle.settle.proofs.settled.methods.settle.Goals as goal

pub returns-clause-promise : goal.returns-clause-promise
returns-clause-promise g c =
    let d = c.args.drawn in
    λ inside. promise_from (g.met.R.RuleSet.lawful d.rules) (sheet_of d) (sheet_is d) c.args.source inside c.find-found.result c.find-found.ensures
