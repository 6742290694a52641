use Rattle.std.proofs.Common.{vec_items}
use Rattle.report.proofs.Fields.{Put}
use Rattle.report.proofs.line.put_line.Given as goal

abbrev pub invariant-loop-field : goal.invariant-loop-field
invariant-loop-field l = Put (λ x. x.now) (vec_items l.fn.out) l.word l.fields l.field-index (vec_items l.out)
