use Rattle.std.proofs.Common.{pos, ap, ◌∙◌}
use Rattle.sheet.specs.Model.{sheet_of}
use Rattle.sheet.proofs.Standing.{sheet_is}
use Rattle.report.proofs.Needs.{needs_step}
use Rattle.report.proofs.findings.put_needs.Goals as goal

pub loop-need-preserved : goal.loop-need-preserved
loop-need-preserved c =
    let t = c.settle-settled.result in
    let same = ap sheet_of c.settle-settled.ensures.moved ∙ c.loop-need.invariant.0 in (
      ap sheet_of c.reopen-drawn.ensures ∙ same,
      needs_step (sheet_of c.args.sheet) (sheet_of t.drawn) t.found _ _ _ c.args.needs.now c.loop-need.need-index (record { from = 0; to = 0; most = pos 0 })
          t.source same (sheet_is t.drawn) c.requires.some c.requires.known c.loop-need-test.true c.settle-settled.ensures.from
          c.settle-settled.ensures.right c.loop-need.invariant.1 c.in_ok-put_need.ensures,
    )
