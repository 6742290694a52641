use Rattle.settle.proofs.Meant.{reads_unique, knots_unique, judges_unique}
use Rattle.settle.proofs.theorems.answers_are_unique.Goals as goal

pub returns : goal.returns
returns c = λ E s source. (reads_unique E s source, knots_unique E s source, judges_unique E s source)
