use Rattle.std.proofs.Common.{ap, ◌∙◌, arith, rules}
use Rattle.std.specs.Int.{from_bool}
use Rattle.bench_hooks.proofs.Turns.{at_most_one, turned}
use Rattle.bench_hooks.proofs.settle_sheet_times.Goals as goal

pub loop-turn-preserved : goal.loop-turn-preserved
loop-turn-preserved g c =
    let t = c.settle-settled.result in
    let told = c.settle-settled.ensures in
    let inv = c.loop-turn.invariant in
    let moved = told.moved ∙ inv.0 in (
      c.reopen-drawn.ensures ∙ moved,
      omega (arith, inv.1, at_most_one _ _ c.from-count.ensures),
      turned g.met.R.RuleSet.lawful c.args.sheet t c.args.source c.loop-turn._turn c.loop-turn.count c.from-count.result
          moved told.from (c.from-count.ensures ∙ ap from_bool (search rules)) inv.2,
    )
