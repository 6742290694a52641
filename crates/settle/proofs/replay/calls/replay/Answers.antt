use Rattle.std.proofs.Common.{vec_items, arith}
use Rattle.settle.proofs.Running.{so_far_more, so_far_all}
use Rattle.settle.proofs.replay.calls.replay.Goals as goal

pub loop-call-preserved : goal.loop-call-preserved
loop-call-preserved g c =
    so_far_more g.met.R.RuleSet.lawful _ _ c.loop-call.sheet c.step-next.result.0 c.args.calls.now c.loop-call.call-index _
    c.step-next.result.1 (vec_items c.loop-call.answers) (vec_items c.push.new.self)
    c.loop-call-test.true c.loop-call.invariant c.step-next.ensures c.in_ok-push.ensures.items

pub returns : goal.returns
returns g c =
    so_far_all g.met.R.RuleSet.lawful c.args.rules c.in_ok-open.field-0
    c.loop-call.sheet c.args.calls.now c.loop-call.call-index (vec_items c.loop-call.answers)
    (omega arith) c.in_ok-open.ensures c.loop-call.invariant
