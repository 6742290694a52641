use Rattle.std.proofs.Common.{refl, arith}
use Rattle.std.proofs.lemmas.Int.{ints}
use Rattle.solver.proofs.Summits.{first_rising, next-rising, next-room, at-summit}
use Rattle.solver.proofs.task.Task.rise.Goals as goal

pub loop-y-init : goal.loop-y-init
loop-y-init g c = (
  c.level-x.ensures.long,
  first_rising c.args.self.now c.level-x.result (g.met.R.RuleSet.lawful c.args.self.now.sheet.now.rules.now) _ c.level-x.ensures (omega (arith, ints)),
)

pub returns-then-not-rose : goal.returns-then-not-rose
returns-then-not-rose g c =
    at-summit c.args.self.now c.loop-y.x (g.met.R.RuleSet.lawful c.args.self.now.sheet.now.rules.now) c.in_ok-y.y c.in_ok-y.ensures
    c.loop-y.invariant.1 (c.if-not-rose.ensures.none refl)

pub loop-y-smaller : goal.loop-y-smaller
loop-y-smaller g c =
    next-room c.args.self.now c.loop-y.x (g.met.R.RuleSet.lawful c.args.self.now.sheet.now.rules.now) c.in_ok-y.y c.in_ok-y.ensures
    (c.if-not-rose.ensures.some refl)

pub loop-y-preserved : goal.loop-y-preserved
loop-y-preserved g c = (
  c.in_ok-y.ensures.long,
  next-rising c.args.self.now c.loop-y.x (g.met.R.RuleSet.lawful c.args.self.now.sheet.now.rules.now) c.in_ok-y.y c.in_ok-y.ensures c.loop-y.invariant.1,
)
