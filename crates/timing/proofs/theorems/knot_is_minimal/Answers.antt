use Rattle.timing.proofs.Statements.{knot_is_minimal}
use Rattle.timing.proofs.theorems.knot_is_minimal.Goals as goal

pub returns : goal.returns
returns c = knot_is_minimal
