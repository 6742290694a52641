use Rattle.std.proofs.Common.{◌≡◌, ◌*◌, ◌%◌, ◌^◌, true, false, length, get_or, pos, sym, refl, ap, ◌∙◌, le_trans, arith, w64, SFits, rules}
use lib.Bits.{bit_or}
use lib.Signed.{le_z}
use Rattle.std.proofs.lemmas.Int.{ints, to_z-of_z}
use Rattle.timing.specs.Bounds.{term_of}
use Rattle.timing.specs.Timetables.{times}
use Rattle.timing.specs.Rise.{phase_sum}
use Rattle.solver.specs.Tasks.{flag}
use Rattle.solver.specs.Asked.{asked}
use Rattle.solver.proofs.Terms.{tally_start, tally-less, tally-more, tally-enough, formed_start, formed_more, no_term, bound_with}
use Rattle.solver.proofs.Passes.{pass_quiet, pass_end}
use Rattle.solver.proofs.Lowering.{bound_is, met, summable, rising_range, phase_range, lowered-to, refused-to, next_round}
use Rattle.solver.proofs.task.Task.phase.Goals as goal
use Rattle.solver.proofs.task.Task.phase.Goals.{then-y-to+else-enough, else-y-to}

pub loop-j-init : goal.loop-j-init
loop-j-init g c =
    let laws = g.met.R.RuleSet.lawful c.args.self.now.sheet.now.rules.now in
    let ts = c.terms-terms.result.now in
    let sum = phase_sum (times c.args.x.now) (times c.bounds.y) c.to-to.result in
    let on : flag c.args.self.now.chosen.now c.turn-i.result ≡ true = search rules in (
      met c.args.self.now c.turn-i.result (bound_with c.to-to.result c.kind-kind.result c.k-k.result ts) c.turn-i.ensures.inside on
          (bound_is c.args.self.now.sheet.now.bounds.now c.turn-i.result c.index-bounds-i.result c.to-to.result c.kind-kind.result c.k-k.result ts
          c.turn-i.ensures.inside c.index-bounds-i.is c.to-to.ensures c.kind-kind.ensures c.k-k.ensures c.terms-terms.ensures.terms),
      tally_start laws c.to-to.result c.kind-kind.result c.k-k.result ts (λ m. le_z (times c.bounds.y c.to-to.result) (sum m)),
      formed_start sum ts _ refl,
    )

pub phase_sum-sum-requires-clause-x : goal.phase_sum-sum-requires-clause-x
phase_sum-sum-requires-clause-x g c =
    summable c.args.self.now c.turn-i.result c.to-to.result c.kind-kind.result c.k-k.result c.terms-terms.result.now c.loop-j.invariant.0 c.args.x.now
    (rising_range c.args.self.now c.args.x.now c.requires) c.loop-j.j _ c.loop-j-test.true

pub phase_sum-sum-requires-clause-y : goal.phase_sum-sum-requires-clause-y
phase_sum-sum-requires-clause-y g c =
    summable c.args.self.now c.turn-i.result c.to-to.result c.kind-kind.result c.k-k.result c.terms-terms.result.now c.loop-j.invariant.0 c.bounds.y
    (phase_range c.args.self.now c.args.x.now c.requires c.bounds.y c.bounds.invariant.stands) c.loop-j.j _ c.loop-j-test.true

pub bounds-preserved : goal.bounds-preserved
bounds-preserved g c =
    let laws = g.met.R.RuleSet.lawful c.args.self.now.sheet.now.rules.now in
    let E = (asked c.args.self.now).meaning in
    let x = times c.args.x.now in
    let y = times c.bounds.y in
    let to = c.to-to.result in
    let ts = c.terms-terms.result.now in
    let at : SFits w64 (get_or c.bounds.y to (pos 0)) = search rules in
    let sum : SFits w64 c.phase_sum-sum.result = search rules in
    let is : c.phase_sum-sum.result ≡ phase_sum x y to (term_of (get_or ts c.loop-j.j no_term)) = search rules in
    let in' : le_z (y to) c.phase_sum-sum.result ≡ true = (let t = simp to_z-of_z at c.if-y-to.true in grind (arith, ints)) in
    let enough : E c.kind-kind.result c.k-k.result (length ts) (bit_or c.loop-j.set ((1 * 2 ^ c.loop-j.j) % 256)) ≡ true = search rules in
    pass_quiet c.bounds.invariant c.turn-i.result c.turn-i.ensures.inside c.turn-i.ensures.round _ c.loop-j.invariant.0.is
    (tally-enough laws to c.kind-kind.result c.k-k.result ts _ c.loop-j.j c.loop-j.set no_term c.terms-terms.ensures.most c.loop-j.invariant.1 c.loop-j-test.true
    (ap (le_z (y to)) (sym is) ∙ in') enough)

pub loop-j-preserved : goal.loop-j-preserved
loop-j-preserved g c =
    let laws = g.met.R.RuleSet.lawful c.args.self.now.sheet.now.rules.now in
    let E = (asked c.args.self.now).meaning in
    let x = times c.args.x.now in
    let y = times c.bounds.y in
    let to = c.to-to.result in
    let ts = c.terms-terms.result.now in
    let at : SFits w64 (get_or c.bounds.y to (pos 0)) = search rules in
    let sum : SFits w64 c.phase_sum-sum.result = search rules in
    let is : c.phase_sum-sum.result ≡ phase_sum x y to (term_of (get_or ts c.loop-j.j no_term)) = search rules in (
      c.loop-j.invariant.0,
      elim c.if-y-to.branch [
        | then-y-to+else-enough w ↦
            let in' : le_z (y to) c.phase_sum-sum.result ≡ true = (let t = simp to_z-of_z at w.if-y-to.true in grind (arith, ints)) in
            let short : E c.kind-kind.result c.k-k.result (length ts) (bit_or c.loop-j.set ((1 * 2 ^ c.loop-j.j) % 256)) ≡ false = search rules in
            rw w.set-is (tally-more laws to c.kind-kind.result c.k-k.result ts _ c.loop-j.j c.loop-j.set no_term
            c.terms-terms.ensures.most c.loop-j.invariant.1 c.loop-j-test.true (ap (le_z (y to)) (sym is) ∙ in') short)
        | else-y-to w ↦
            let out : le_z (y to) c.phase_sum-sum.result ≡ false = (let t = simp to_z-of_z at w.if-y-to.false in grind (arith, ints)) in
            rw w.set-is (tally-less laws to c.kind-kind.result c.k-k.result ts _ c.loop-j.j c.loop-j.set no_term
            c.terms-terms.ensures.most c.loop-j.invariant.1 c.loop-j-test.true (ap (le_z (y to)) (sym is) ∙ out))
      ],
      formed_more _ ts c.loop-j.j c.loop-j.sums _ no_term c.terms-terms.ensures.most c.loop-j.invariant.2 c.loop-j-test.true (to_z-of_z w64 _ sum ∙ is),
    )

pub rounds-smaller : goal.rounds-smaller
rounds-smaller g c =
    let laws = g.met.R.RuleSet.lawful c.args.self.now.sheet.now.rules.now in
    let fits : SFits w64 c.in-Some.time = search rules in
    le_trans
    (lowered-to c.args.self.now laws c.args.x.now c.bounds.y
    c.bounds.invariant.stands c.bounds.invariant.long c.turn-i.result c.to-to.result c.kind-kind.result c.k-k.result c.terms-terms.result.now
    c.loop-j.invariant.0 c.loop-j.j c.loop-j.set c.loop-j.sums c.loop-j.invariant.1 c.loop-j.invariant.2 c.loop-j-test.false (omega arith)
    c.in-Some.time _ (omega (arith, ints)) c.in-Some.ensures).less
    c.bounds.invariant.least

pub rounds-preserved : goal.rounds-preserved
rounds-preserved g c =
    let laws = g.met.R.RuleSet.lawful c.args.self.now.sheet.now.rules.now in
    let fits : SFits w64 c.in-Some.time = search rules in
    next_round (length c.args.self.now.sheet.now.bounds.now) _ (let h = c.turn-i.ensures.inside in omega arith)
    (lowered-to c.args.self.now laws c.args.x.now c.bounds.y
    c.bounds.invariant.stands c.bounds.invariant.long c.turn-i.result c.to-to.result c.kind-kind.result c.k-k.result c.terms-terms.result.now
    c.loop-j.invariant.0 c.loop-j.j c.loop-j.set c.loop-j.sums c.loop-j.invariant.1 c.loop-j.invariant.2 c.loop-j-test.false (omega arith)
    c.in-Some.time _ (omega (arith, ints)) c.in-Some.ensures)

pub returns-in_default : goal.returns-in_default
returns-in_default g c =
    let laws = g.met.R.RuleSet.lawful c.args.self.now.sheet.now.rules.now in
    refused-to c.args.self.now laws c.args.x.now c.bounds.y
    c.bounds.invariant.stands c.bounds.invariant.long c.turn-i.result c.to-to.result c.kind-kind.result c.k-k.result c.terms-terms.result.now
    c.loop-j.invariant.0 c.loop-j.j c.loop-j.set c.loop-j.sums c.loop-j.invariant.1 c.loop-j.invariant.2 c.loop-j-test.false (omega arith)
    c.in_default.ensures

pub returns-after-bounds : goal.returns-after-bounds
returns-after-bounds g c = record { long = c.bounds.invariant.long; stands = c.bounds.invariant.stands; quiet = pass_end c.bounds.invariant c.bounds-test.false }
