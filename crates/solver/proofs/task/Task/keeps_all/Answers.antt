use Rattle.std.proofs.Common.{◌≡◌, ◌*◌, ◌%◌, ◌^◌, true, false, length, get_or, pos, sym, refl, ap, ◌∙◌, arith, w64, SFits, rules}
use lib.Bits.{bit_or}
use lib.Signed.{le_z}
use Rattle.std.proofs.lemmas.Int.{ints, to_z-of_z}
use Rattle.std.proofs.lemmas.Bool.{false≢true}
use Rattle.timing.specs.Timetables.{times, allows, KeepsAll}
use Rattle.solver.specs.Asked.{asked}
use Rattle.solver.specs.Tasks.{flag, Summable}
use Rattle.solver.proofs.Terms.{tally_start, tally-less, tally-more, tally-enough, tally_end, term_at_lem, bound_with}
use Rattle.solver.proofs.Passes.{kept_so_far, kept_all, broken}
use Rattle.solver.proofs.Lowering.{bound_is}
use Rattle.solver.proofs.Summits.{testable_at}
use Rattle.solver.proofs.task.Task.keeps_all.Goals as goal
use Rattle.solver.proofs.task.Task.keeps_all.Goals.{then-timetable-to+else-enough, else-timetable-to}

pub loop-j-init : goal.loop-j-init
loop-j-init g c =
    let laws = g.met.R.RuleSet.lawful c.args.self.now.sheet.now.rules.now in
    let ts = c.terms-terms.result.now in
    let is =
    bound_is c.args.self.now.sheet.now.bounds.now c.bounds.i c.index-bounds-i.result c.to-to.result c.kind-kind.result c.k-k.result ts
    c.bounds-test.true c.index-bounds-i.is c.to-to.ensures c.kind-kind.ensures c.k-k.ensures c.terms-terms.ensures.terms in (
      is,
      testable_at c.args.timetable.now c.args.self.now.sheet.now.bounds.now c.bounds.i (bound_with c.to-to.result c.kind-kind.result c.k-k.result ts) c.requires c.bounds-test.true is,
      tally_start laws c.to-to.result c.kind-kind.result c.k-k.result ts (allows (times c.args.timetable.now) c.to-to.result),
    )

pub term_sum-requires : goal.term_sum-requires
term_sum-requires g c = term_at_lem (Summable c.args.timetable.now) c.terms-terms.result.now c.loop-j.j _ c.loop-j-test.true c.loop-j.invariant.1.1

pub bounds-preserved : goal.bounds-preserved
bounds-preserved g c =
    let laws = g.met.R.RuleSet.lawful c.args.self.now.sheet.now.rules.now in
    let E = (asked c.args.self.now).meaning in
    let t = times c.args.timetable.now in
    let to = c.to-to.result in
    let ts = c.terms-terms.result.now in
    let at : SFits w64 (get_or c.args.timetable.now to (pos 0)) = search rules in
    let sum : SFits w64 c.term_sum.result = search rules in
    let in' : le_z (t to) c.term_sum.result ≡ true = (let h = simp to_z-of_z at c.if-timetable-to.true in grind (arith, ints)) in
    let enough : E c.kind-kind.result c.k-k.result (length ts) (bit_or c.loop-j.set ((1 * 2 ^ c.loop-j.j) % 256)) ≡ true = search rules in
    kept_so_far c.args.self.now t c.bounds.i _ c.bounds.invariant c.loop-j.invariant.0
    (tally-enough laws to c.kind-kind.result c.k-k.result ts (allows t to) c.loop-j.j c.loop-j.set _ c.terms-terms.ensures.most c.loop-j.invariant.2 c.loop-j-test.true
    (ap (le_z (t to)) (sym c.term_sum.ensures) ∙ in') enough)

pub loop-j-preserved : goal.loop-j-preserved
loop-j-preserved g c =
    let laws = g.met.R.RuleSet.lawful c.args.self.now.sheet.now.rules.now in
    let E = (asked c.args.self.now).meaning in
    let ts = c.terms-terms.result.now in
    let t = times c.args.timetable.now in
    let to = c.to-to.result in
    let at : SFits w64 (get_or c.args.timetable.now to (pos 0)) = search rules in
    let sum : SFits w64 c.term_sum.result = search rules in
    let is = ap (le_z (t to)) (sym c.term_sum.ensures) in (
      c.loop-j.invariant.0,
      c.loop-j.invariant.1,
      elim c.if-timetable-to.branch [
        | then-timetable-to+else-enough w ↦
            let in' : le_z (t to) c.term_sum.result ≡ true = (let h = simp to_z-of_z at w.if-timetable-to.true in grind (arith, ints)) in
            let short : E c.kind-kind.result c.k-k.result (length ts) (bit_or c.loop-j.set ((1 * 2 ^ c.loop-j.j) % 256)) ≡ false = search rules in
            rw w.set-is (tally-more laws to c.kind-kind.result c.k-k.result ts (allows t to) c.loop-j.j c.loop-j.set _
            c.terms-terms.ensures.most c.loop-j.invariant.2 c.loop-j-test.true (is ∙ in') short)
        | else-timetable-to w ↦
            let out : le_z (t to) c.term_sum.result ≡ false = (let h = simp to_z-of_z at w.if-timetable-to.false in grind (arith, ints)) in
            rw w.set-is (tally-less laws to c.kind-kind.result c.k-k.result ts (allows t to) c.loop-j.j c.loop-j.set _
            c.terms-terms.ensures.most c.loop-j.invariant.2 c.loop-j-test.true (is ∙ out))
      ],
    )

pub returns-in-bounds : goal.returns-in-bounds
returns-in-bounds g c =
    let laws = g.met.R.RuleSet.lawful c.args.self.now.sheet.now.rules.now in
    let E = (asked c.args.self.now).meaning in
    let t = times c.args.timetable.now in
    let on : flag c.args.self.now.chosen.now c.bounds.i ≡ true = search rules in (
      λ e. absurd {A = KeepsAll E (asked c.args.self.now).bounds t} (false≢true e),
      λ keeps. absurd {A = false ≡ true} (broken c.args.self.now t c.bounds.i
          (bound_with c.to-to.result c.kind-kind.result c.k-k.result c.terms-terms.result.now) c.bounds-test.true on c.loop-j.invariant.0
          (tally_end laws c.to-to.result c.kind-kind.result c.k-k.result c.terms-terms.result.now (allows t c.to-to.result) c.loop-j.j c.loop-j.set
          c.loop-j.invariant.2 c.loop-j-test.false) keeps),
    )

pub returns : goal.returns
returns g c = (
  λ _. kept_all c.args.self.now (times c.args.timetable.now) c.bounds.i c.bounds-test.false c.bounds.invariant,
  λ _. refl,
)
