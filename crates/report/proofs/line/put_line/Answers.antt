use Rattle.std.proofs.Common.{ℕ, List, [], Bor}
use Rattle.report.proofs.Fields.{put_next}
use Rattle.report.proofs.line.put_line.Goals as goal

-- the element that a read past the end would give
abbrev none_there : Bor (List ℕ)
none_there = record { ref_ptr = (0, 0); now = [] }

pub loop-field-preserved : goal.loop-field-preserved
loop-field-preserved c =
    put_next (λ x. x.now) _ _ _ _ _ _ _ none_there c.loop-field-test.true c.loop-field.invariant c.in_ok-push.ensures.items c.in_ok-extend_from_slice-2.ensures.items
