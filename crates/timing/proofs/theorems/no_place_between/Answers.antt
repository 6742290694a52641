use Rattle.std.proofs.Common.{lit≤}
use Rattle.timing.proofs.Statements.{no_place_between}
use Rattle.timing.proofs.theorems.no_place_between.Goals as goal

pub returns : goal.returns
returns c = no_place_between _ (lit≤ tt)
