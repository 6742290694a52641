-- Worked sheets under the vote set, and what it is to answer them rightly. The answers stand in the code.
use Rattle.std.specs.Prelude.{ℕ, false, List, [], ◌∷◌, ◌++◌, pos, neg_ℤ, slice_index_or}
use Rattle.rules.specs.Sets.{vote_enough}
use Rattle.timing.specs.declared.worked.WorkedAnswer.{WorkedAnswer}
use Rattle.timing.specs.declared.worked.WorkedAnswer.TheVariants.{Placed, Knotted}
use Rattle.timing.specs.Limits.{delay_limit}
use Rattle.timing.specs.Model.{TermModel, BoundModel}
use Rattle.timing.specs.Timetables.{Contradictory, times}
use Rattle.timing.specs.Places.{Places}
use Rattle.timing.specs.Knots.{Knot}

-- bounds over some events, and a source
pub record WorkedSheet : Type 0 where
  pub source : ℕ
  pub events : ℕ
  pub bounds : List BoundModel

abbrev from : ℕ → ℕ → List BoundModel → WorkedSheet
from source events bounds = record { source = source; events = events; bounds = bounds }

-- FROM plus a delay, and FROM less a delay
abbrev pub plus : ℕ → ℕ → TermModel
plus from d = record { from = from; delay = pos d }

abbrev pub less : ℕ → ℕ → TermModel
less from d = record { from = from; delay = neg_ℤ (pos d) }

-- TO is not later than the latest of the terms; than every one of them; than at least K of them
abbrev pub latest : ℕ → List TermModel → BoundModel
latest to terms = record { to = to; kind = 0; k = 0; terms = terms }

abbrev pub every : ℕ → List TermModel → BoundModel
every to terms = record { to = to; kind = 1; k = 0; terms = terms }

abbrev pub count : ℕ → ℕ → List TermModel → BoundModel
count k to terms = record { to = to; kind = 2; k = k; terms = terms }

-- TO is not later than one term
abbrev pub only : ℕ → TermModel → BoundModel
only to term = latest to (term ∷ [])

-- a memory: address valid, chip select, data valid
abbrev AV : ℕ
AV = 0

abbrev CS : ℕ
CS = 1

abbrev DV : ℕ
DV = 2

abbrev pub memory : List BoundModel
memory = latest DV (plus AV 20 ∷ plus CS 20 ∷ []) ∷ only AV (plus DV 0) ∷ only CS (plus DV 0) ∷ only CS (less DV 30) ∷ []

abbrev A : ℕ
A = 0

abbrev B : ℕ
B = 1

abbrev C : ℕ
C = 2

abbrev E : ℕ
E = 3

-- three inputs of E
abbrev pub inputs : List TermModel
inputs = plus A 1 ∷ plus B 5 ∷ plus C 9 ∷ []

abbrev pub worked : List WorkedSheet
worked =
    -- the memory, from each of its events, and once with a bound that holds nothing
    from AV 3 memory
    ∷ from AV 3 (memory ++ only CS (plus AV 300) ∷ [])
    ∷ from DV 3 memory
    ∷ from CS 3 memory
    -- three events that hold one another back, and the same without the third bound
    ∷ from A 3 (latest A (less B 1 ∷ less C 1 ∷ []) ∷ only B (plus A 0) ∷ only C (plus A 0) ∷ [])
    ∷ from A 3 (latest A (less B 1 ∷ less C 1 ∷ []) ∷ only B (plus A 0) ∷ [])
    -- an event and itself
    ∷ from A 1 (only A (plus A 0) ∷ [])
    ∷ from A 1 (only A (less A 1) ∷ [])
    ∷ from A 2 (only A (less A 1) ∷ only B (less B 1) ∷ [])
    -- the same inputs by three rules
    ∷ from A 4 (only B (plus A 0) ∷ only C (plus A 0) ∷ latest E inputs ∷ [])
    ∷ from A 4 (only B (plus A 0) ∷ only C (plus A 0) ∷ every E inputs ∷ [])
    ∷ from A 4 (only B (plus A 0) ∷ only C (plus A 0) ∷ count 2 E inputs ∷ [])
    -- an event alone
    ∷ from A 1 []
    ∷ []

-- the answer is right for the sheet: these are its places, or it is contradictory with this knot
abbrev pub Right : WorkedSheet → WorkedAnswer → Type 0
Right w (Placed places) = Places vote_enough delay_limit w.events w.source w.bounds (times places)
Right w (Knotted flags) = Contradictory vote_enough w.bounds × Knot vote_enough w.bounds (λ i. slice_index_or flags i false)

-- each sheet has its answer, and it is right
unfoldable pub AllRight : List WorkedSheet → List WorkedAnswer → Type 0
AllRight [] [] = Unit {0}
AllRight [] (a ∷ answers) = ⊥
AllRight (w ∷ sheets) [] = ⊥
AllRight (w ∷ sheets) (a ∷ answers) = Right w a × AllRight sheets answers
