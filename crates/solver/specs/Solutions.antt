-- What settling some bounds gives: their places, or that no timetable keeps them.
use Rattle.std.specs.Prelude.{ℕ, ◌<◌, List, ℤ, Some, None, Option}
use Rattle.rules.specs.Laws.{Enough}
use Rattle.timing.specs.Limits.{delay_limit}
use Rattle.timing.specs.Model.{BoundModel}
use Rattle.timing.specs.Timetables.{times, Contradictory}
use Rattle.timing.specs.Places as Defined
use Rattle.solver.specs.Tasks.{InRange}

-- the times are the places of the bounds, over n events and from a source
pub record AtPlaces (E : Enough) (n source : ℕ) (bs : List BoundModel) (p : List ℤ) : Type 0 where
  pub places : Defined.Places E delay_limit n source bs (times p)
  pub range : (e : ℕ) → e < n → InRange (times p e)

abbrev pub Solves : Enough → ℕ → ℕ → List BoundModel → Option (List ℤ) → Type 0
Solves E n source bs (Some p) = AtPlaces E n source bs p
Solves E n source bs None = Contradictory E bs
