use Rattle.std.proofs.Common.{◌≡◌, true, length, not-suc-le-zero, arith, w64, SFits, rules}
use Rattle.std.proofs.lemmas.Int.{to_z-of_z}
use Rattle.solver.proofs.Reached.{least_permitted, none_after}
use Rattle.solver.proofs.latest.latest.Goals as goal

pub loop-sum-init : goal.loop-sum-init
loop-sum-init g c =
    let laws = g.met.R.RuleSet.lawful c.args.rules.now in
    let fits : SFits w64 c.in_ok-best.best = search rules in
    let ok : g.R.RuleSet.admitted c.args.rules.now c.args.kind c.args.k (length c.args.sums.now) ≡ true = search rules in (
      least_permitted laws c.args.kind c.args.k c.args.sums.now ok _ (λ j h. simp to_z-of_z (c.in_ok-best.ensures j h)),
      λ j h. absurd (not-suc-le-zero h),
    )

pub returns : goal.returns
returns g c =
    let laws = g.met.R.RuleSet.lawful c.args.rules.now in
    let inv = c.loop-sum.invariant in
    record {
      permitted = inv.0;
      last = none_after laws c.args.kind c.args.k c.args.sums.now _ (λ j h. inv.1 j (omega arith));
    }
