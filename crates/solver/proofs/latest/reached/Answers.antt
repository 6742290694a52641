use Rattle.std.proofs.Common.{◌≡◌, ◌<◌, true, false, get_or, pos, ◌∙◌, arith, w64, SFits, rules}
use lib.Signed.{le_z}
use Rattle.std.proofs.lemmas.Int.{ints, to_z-of_z}
use Rattle.rules.proofs.Masks.{mask_more, mask_less}
use Rattle.solver.proofs.latest.reached.Goals as goal
use Rattle.solver.proofs.latest.reached.Goals.{then-sum-time, else-sum-time}

pub loop-i-preserved : goal.loop-i-preserved
loop-i-preserved c =
    let small : c.loop-i.i < 8 = omega arith in
    let xs = c.args.sums.now in
    let whole : SFits w64 c.args.time = c.ranges.time in
    let inv = simp to_z-of_z at c.loop-i.invariant in
    let read : SFits w64 (get_or xs c.loop-i.i (pos 0)) = search rules in
    elim c.if-sum-time.branch [
      | then-sum-time w ↦
          let in' : le_z c.args.time (get_or xs c.loop-i.i (pos 0)) ≡ true = (let t = simp to_z-of_z at w.if-sum-time.true in grind (arith, ints)) in
          simp to_z-of_z (w.set-is ∙ mask_more (le_z c.args.time) xs c.loop-i.i (pos 0) c.loop-i.set c.loop-i-test.true small inv in')
      | else-sum-time w ↦
          let out : le_z c.args.time (get_or xs c.loop-i.i (pos 0)) ≡ false = (let t = simp to_z-of_z at w.if-sum-time.false in grind (arith, ints)) in
          simp to_z-of_z (w.set-is ∙ mask_less (le_z c.args.time) xs c.loop-i.i (pos 0) c.loop-i.set c.loop-i-test.true inv out)
    ]
