-- What is proved of every sheet, for every delay limit D from 1 up and every rule set that keeps the laws.
use Rattle.std.specs.Prelude.{◌≡◌, ℕ, ◌<◌, Bool, true, List, length, ℤ, pos, ◌+ℤ◌, neg_ℤ, ◌≤ℤ◌, ◌<ℤ◌, Some, ◌≢◌}
use Rattle.rules.specs.Laws.{Admits, Enough, Laws}
use Rattle.timing.specs.Model.{BoundModel, IsSheet}
use Rattle.timing.specs.Timetables.{Timetable, KeepsAll, Contradictory}
use Rattle.timing.specs.Places.{far_mark, span, Eligible, Places, Open, separation}
use Rattle.timing.specs.Knots.{AdmitOne, AdmitNone, Knot}

-- the statement holds of every sheet of at most N events, from every source
abbrev pub FromEverySource : ℕ → (Enough → ℕ → ℕ → ℕ → List BoundModel → Type 0) → Type 0
FromEverySource N Statement =
    (A : Admits) (E : Enough) → Laws A E → (D n : ℕ) (bs : List BoundModel) → IsSheet N D n bs
    → (source : ℕ) → source < n → Statement E D n source bs

-- the statement holds of the places of every sheet of at most N events, from every source, and of each event
abbrev pub OfEveryPlace : ℕ → (Enough → ℕ → ℕ → List BoundModel → Timetable → ℕ → Type 0) → Type 0
OfEveryPlace N Statement =
    FromEverySource N (λ E D n source bs. (p : Timetable) → Places E D n source bs p → (e : ℕ) → e < n → Statement E D source bs p e)

-- a sheet has one latest timetable
abbrev pub PlacesAreUnique : Type 0
PlacesAreUnique =
    (E : Enough) (D n source : ℕ) (bs : List BoundModel) (p q : Timetable) → Places E D n source bs p → Places E D n source bs q
    → (e : ℕ) → e < n → p e ≡ q e

-- whichever event is the source: no timetable is eligible exactly when none keeps all bounds
abbrev pub ContradictionIgnoresTheSource : ℕ → Type 0
ContradictionIgnoresTheSource N =
    FromEverySource N (λ E D n source bs.
    (((t : Timetable) → Eligible E D n source bs t → ⊥) → Contradictory E bs)
    × (Contradictory E bs → (t : Timetable) → Eligible E D n source bs t → ⊥))

-- where some timetable keeps all bounds, one has the source at 0, nothing after the far mark and nothing before -63 D
abbrev pub SomeTimetableStaysLow : ℕ → Type 0
SomeTimetableStaysLow N =
    FromEverySource N (λ E D n source bs. (t : Timetable) → KeepsAll E bs t
    → (u : Timetable) × Eligible E D n source bs u × ((e : ℕ) → e < n → neg_ℤ (span D) ≤ℤ u e))

-- an open event can be put after any number
abbrev pub FarPlacesAreOpen : ℕ → Type 0
FarPlacesAreOpen N =
    OfEveryPlace N (λ E D source bs p e. Open D p e
    → (z : ℤ) → (t : Timetable) × KeepsAll E bs t × (t source ≡ pos 0) × (z <ℤ t e))

-- a separation lies from -63 D to 63 D, and no timetable that keeps all bounds with the source at 0 puts the event later
abbrev pub NearPlacesAreExact : ℕ → Type 0
NearPlacesAreExact N =
    OfEveryPlace N (λ E D source bs p e. (v : ℤ) → separation D p e ≡ Some v
    → (neg_ℤ (span D) ≤ℤ v) × (v ≤ℤ span D) × ((t : Timetable) → KeepsAll E bs t → t source ≡ pos 0 → t e ≤ℤ v))

-- no place lies above 63 D and below the far mark less 63 D
abbrev pub NoPlaceBetween : ℕ → Type 0
NoPlaceBetween N =
    OfEveryPlace N (λ E D source bs p e. Open D p e → p e <ℤ (far_mark D +ℤ neg_ℤ (span D)) → ⊥)

-- the bounds of a knot admit no timetable, and without any single one of them the rest admit one
abbrev pub KnotIsMinimal : Type 0
KnotIsMinimal =
    (E : Enough) (bs : List BoundModel) (knot : ℕ → Bool) → Contradictory E bs → Knot E bs knot
    → AdmitNone E bs (λ j. knot j ≡ true)
    × ((i : ℕ) → i < length bs → knot i ≡ true → AdmitOne E bs (λ j. (knot j ≡ true) × (j ≢ i)))

-- a sheet has one knot
abbrev pub KnotIsUnique : Type 0
KnotIsUnique =
    (E : Enough) (bs : List BoundModel) (knot other : ℕ → Bool) → Knot E bs knot → Knot E bs other
    → (i : ℕ) → i < length bs → knot i ≡ other i
