use Rattle.timing.proofs.Statements.{knot_is_unique}
use Rattle.timing.proofs.theorems.knot_is_unique.Goals as goal

pub returns : goal.returns
returns c = knot_is_unique
