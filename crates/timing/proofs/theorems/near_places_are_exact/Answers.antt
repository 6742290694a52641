use Rattle.std.proofs.Common.{lit≤}
use Rattle.timing.proofs.Statements.{near_places_are_exact}
use Rattle.timing.proofs.theorems.near_places_are_exact.Goals as goal

pub returns : goal.returns
returns c = near_places_are_exact _ (lit≤ tt)
