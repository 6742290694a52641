-- What is promised of a sheet that stands settled from one of its events: of what read answers for each event and
-- what knot answers for each bound, in terms of the timetables that keep the standing bounds.
use Rattle.std.specs.Prelude.{◌≡◌, ℕ, ◌<◌, Bool, true, List, length, ℤ, pos, ◌≤ℤ◌, ◌<ℤ◌, Some, None, Ok, Err, Result, ◌≢◌}
use Rattle.rules.specs.Laws.{Enough}
use Rattle.timing.specs.Model.{BoundModel}
use Rattle.timing.specs.Timetables.{Timetable, KeepsAll, Contradictory}
use Rattle.timing.specs.Knots.{AdmitOne, AdmitNone}
use Rattle.sheet.specs.Plain.{PlainSheet}
use Rattle.sheet.specs.declared.fault.Refusal.{Refusal}
use Rattle.sheet.specs.declared.fault.Refusal.TheVariants.{Contradictory as IsContradictory}
use Rattle.settle.specs.declared.reading.Reading.{Reading}
use Rattle.settle.specs.Held.{events}

-- what a call answers for each event, and what one answers for each bound
abbrev pub ReadAnswers : Type 0
ReadAnswers = ℕ → Result Reading Refusal

abbrev pub KnotAnswers : Type 0
KnotAnswers = ℕ → Result Bool Refusal

-- each of two statements gives the other
abbrev pub Exactly : Type 0 → Type 0 → Type 0
Exactly P Q = (P → Q) × (Q → P)

-- a timetable that keeps the bounds with the source at 0
pub record KeepsFrom (E : Enough) (bs : List BoundModel) (source : ℕ) (t : Timetable) : Type 0 where
  pub keeps : KeepsAll E bs t
  pub starts : t source ≡ pos 0

-- some such timetable puts the event later than z, whatever z is
abbrev pub LaterThanAny : Enough → List BoundModel → ℕ → ℕ → Type 0
LaterThanAny E bs source e = (z : ℤ) → (t : Timetable) × KeepsFrom E bs source t × (z <ℤ t e)

-- what is read: this separation; no separation; this place
abbrev pub SeparationRead : ReadAnswers → ℕ → ℤ → Type 0
SeparationRead read e v = (x : Reading) × (read e ≡ Ok x) × (x.separation ≡ Some v)

abbrev pub OpenRead : ReadAnswers → ℕ → Type 0
OpenRead read e = (x : Reading) × (read e ≡ Ok x) × (x.separation ≡ None)

abbrev pub PlaceRead : ReadAnswers → ℕ → ℤ → Type 0
PlaceRead read e v = (x : Reading) × (read e ≡ Ok x) × (x.place ≡ v)

-- the bounds to which knot says yes
abbrev pub SaidYes : KnotAnswers → ℕ → Type 0
SaidYes knot i = knot i ≡ Ok true

pub record Promise (E : Enough) (s : PlainSheet) (source : ℕ) (read : ReadAnswers) (knot : KnotAnswers) : Type 0 where
  -- no timetable that keeps the bounds with the source at 0 puts an event later than the separation read for it
  pub never_later : (e : ℕ) → e < events s → (v : ℤ) → SeparationRead read e v → (t : Timetable) → KeepsFrom E s.bounds source t → t e ≤ℤ v
  -- where there are such timetables, the places read make one, and it puts each event that has a separation exactly at it
  pub attained : (t : Timetable) → KeepsFrom E s.bounds source t
      → (p : Timetable) × KeepsFrom E s.bounds source p × ((e : ℕ) → e < events s → PlaceRead read e (p e) × ((v : ℤ) → SeparationRead read e v → p e ≡ v))
  -- an event is read as open exactly when, for every whole number, some such timetable puts it later than that
  pub open_exactly : (e : ℕ) → e < events s → Exactly (OpenRead read e) (LaterThanAny E s.bounds source e)
  -- read answers "contradictory", for an event of the sheet, exactly when no timetable keeps the bounds
  pub contradiction_exactly : (e : ℕ) → e < events s → Exactly (read e ≡ Err IsContradictory) (Contradictory E s.bounds)
  -- then no timetable keeps all the bounds to which knot says yes, and without any single one of these the rest admit one
  pub knot_contradictory : Contradictory E s.bounds → AdmitNone E s.bounds (SaidYes knot)
  pub knot_minimal : Contradictory E s.bounds → (i : ℕ) → i < length s.bounds → SaidYes knot i
      → AdmitOne E s.bounds (λ j. SaidYes knot j × (j ≢ i))
