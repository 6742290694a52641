-- The knot of a contradictory sheet.
use Rattle.std.specs.Prelude.{◌≡◌, ℕ, suc, ◌<◌, Bool, true, false, cond, ◌⊎◌, List, [], ◌∷◌, length, slice_index_or}
use Rattle.rules.specs.Laws.{Enough}
use Rattle.timing.specs.Model.{BoundModel}
use Rattle.timing.specs.Timetables.{Timetable, Keeps}

-- what stands where a number names no bound
abbrev pub no_bound : BoundModel
no_bound = record { to = 0; kind = 0; k = 0; terms = [] }

-- those of a list whose numbers pass a test
abbrev pub those : {X : Type 0} → (ℕ → Bool) → List X → List X
those chosen [] = []
those chosen (x ∷ xs) = cond (chosen 0) (x ∷ those (λ j. chosen (suc j)) xs) (those (λ j. chosen (suc j)) xs)

-- the timetable keeps the bounds whose numbers are in a set
abbrev pub KeepsThose : Enough → List BoundModel → (ℕ → Type 0) → Timetable → Type 0
KeepsThose E bs In t = (i : ℕ) → i < length bs → In i → Keeps E t (slice_index_or bs i no_bound)

-- those bounds admit a timetable
abbrev pub AdmitOne : Enough → List BoundModel → (ℕ → Type 0) → Type 0
AdmitOne E bs In = (t : Timetable) × KeepsThose E bs In t

-- those bounds admit no timetable
abbrev pub AdmitNone : Enough → List BoundModel → (ℕ → Type 0) → Type 0
AdmitNone E bs In = (t : Timetable) → KeepsThose E bs In t → ⊥

-- the bounds remaining when the bound i is tried without: of the earlier ones those in the knot, and all later ones
abbrev pub Remaining : (ℕ → Bool) → ℕ → ℕ → Type 0
Remaining knot i j = ((j < i) × (knot j ≡ true)) ⊎ (i < j)

-- the knot, by number: all bounds are tried in order, and one is left out when the bounds remaining still admit no timetable
pub record Knot (E : Enough) (bs : List BoundModel) (knot : ℕ → Bool) : Type 0 where
  pub stays : (i : ℕ) → i < length bs → knot i ≡ true → AdmitOne E bs (Remaining knot i)
  pub goes : (i : ℕ) → i < length bs → knot i ≡ false → AdmitNone E bs (Remaining knot i)
