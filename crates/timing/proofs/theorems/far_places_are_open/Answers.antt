use Rattle.std.proofs.Common.{lit≤}
use Rattle.timing.proofs.Statements.{far_places_are_open}
use Rattle.timing.proofs.theorems.far_places_are_open.Goals as goal

pub returns : goal.returns
returns c = far_places_are_open _ (lit≤ tt)
