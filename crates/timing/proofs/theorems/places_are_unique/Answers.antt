use Rattle.timing.proofs.Statements.{places_are_unique}
use Rattle.timing.proofs.theorems.places_are_unique.Goals as goal

pub returns : goal.returns
returns c = places_are_unique
