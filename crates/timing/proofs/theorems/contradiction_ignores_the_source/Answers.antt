use Rattle.std.proofs.Common.{lit≤}
use Rattle.timing.proofs.Statements.{contradiction_ignores_the_source}
use Rattle.timing.proofs.theorems.contradiction_ignores_the_source.Goals as goal

pub returns : goal.returns
returns c = contradiction_ignores_the_source _ (lit≤ tt)
