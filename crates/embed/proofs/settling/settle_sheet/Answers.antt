use Rattle.std.proofs.Common.{arith, rules}
use Rattle.sheet.specs.Model.{sheet_of}
use Rattle.embed.specs.Settling.{Ready}
use Rattle.embed.proofs.Finds.{knot_handed, events-handed}
use Rattle.embed.proofs.settling.settle_sheet.Goals as goal

pub returns-in-Err : goal.returns-in-Err
returns-in-Err g c =
    let told = c.settle-settled.ensures in
    let ready : Ready (sheet_of c.args.sheet) c.args.source c.args.events.now c.args.knot.now =
    record { known = omega arith; wide = omega arith; long = omega arith } in
    knot_handed g.met.R.RuleSet.lawful c.args.sheet c.args.source c.args.events.now c.args.knot.now ready
    c.settle-settled.result c.in-Err.refusal c.fill.new.slots c.bound_count-bounds.result told.moved told.from c.in-Err.ensures.held
    c.bound_count-bounds.ensures (search rules) (λ k lt x. let h = c.fill.ensures k lt x in search rules)

pub returns : goal.returns
returns g c =
    let told = c.settle-settled.ensures in
    let ready : Ready (sheet_of c.args.sheet) c.args.source c.args.events.now c.args.knot.now =
    record { known = omega arith; wide = omega arith; long = omega arith } in
    events-handed g.met.R.RuleSet.lawful c.args.sheet c.args.source c.args.events.now c.args.knot.now ready
    c.settle-settled.result c.in_default.field-0 c.fill-2.new.slots c.event_count-count.result told.moved told.from c.in_default.ensures.held
    c.event_count-count.ensures (search rules) (λ k lt x. let h = c.fill-2.ensures k lt x in search rules)
