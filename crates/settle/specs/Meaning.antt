-- What the calls on a settled sheet are to answer, by the meaning of the standing bounds alone.
use Rattle.std.specs.Prelude.{◌≡◌, ℕ, ◌<◌, ◌≤◌, Bool, true, false, List, length, ℤ, ◌+ℤ◌, ◌≤ℤ◌, ◌<ℤ◌, Ok, Err, Result, slice_index_or}
use Rattle.rules.specs.Laws.{Enough}
use Rattle.timing.specs.Limits.{delay_limit}
use Rattle.timing.specs.Model.{BoundModel}
use Rattle.timing.specs.Timetables.{Timetable, times, KeepsAll, Contradictory}
use Rattle.timing.specs.Places.{Places}
use Rattle.timing.specs.Knots.{Knot}
use Rattle.sheet.specs.Plain.{PlainSheet}
use Rattle.sheet.specs.declared.fault.Refusal.{Refusal}
use Rattle.sheet.specs.declared.fault.Refusal.TheVariants.{NoSuchSource, NoSuchEvent, NoSuchBound, Contradictory as IsContradictory, NotContradictory}
use Rattle.settle.specs.declared.reading.Reading.{Reading}
use Rattle.settle.specs.declared.settled.Found.{Found}
use Rattle.settle.specs.declared.settled.Found.TheVariants.{NoSource, Placed, Knotted}
use Rattle.settle.specs.Held.{events, reading_of}

-- the places of a sheet from a source
abbrev pub PlacesFrom : Enough → PlainSheet → ℕ → Timetable → Type 0
PlacesFrom E s source p = Places E delay_limit (events s) source s.bounds p

-- some timetable keeps all bounds
abbrev pub Consistent : Enough → List BoundModel → Type 0
Consistent E bs = (t : Timetable) × KeepsAll E bs t

-- what settling found is right
abbrev pub Right : Enough → PlainSheet → ℕ → Found → Type 0
Right E s source NoSource = events s ≤ source
Right E s source (Placed places) = (source < events s) × PlacesFrom E s source (times places)
Right E s source (Knotted flags) = (source < events s) × Contradictory E s.bounds × Knot E s.bounds (λ i. slice_index_or flags i false)

-- nothing is read of an event, for the first reason that holds
abbrev pub Unread : Enough → PlainSheet → ℕ → ℕ → Refusal → Type 0
Unread E s source e NoSuchSource = events s ≤ source
Unread E s source e NoSuchEvent = (source < events s) × (events s ≤ e)
Unread E s source e IsContradictory = (source < events s) × (e < events s) × Contradictory E s.bounds
Unread E s source e NoSuchBound = ⊥
Unread E s source e NotContradictory = ⊥

-- read answers by the places
abbrev pub Reads : Enough → PlainSheet → ℕ → ℕ → Result Reading Refusal → Type 0
Reads E s source e (Ok x) = (source < events s) × (e < events s) × ((p : Timetable) × PlacesFrom E s source p × (x ≡ reading_of p e))
Reads E s source e (Err refusal) = Unread E s source e refusal

-- knot answers whether the bound is in the knot of a contradictory sheet
abbrev pub Knots : Enough → PlainSheet → ℕ → ℕ → Result Bool Refusal → Type 0
Knots E s source i (Ok x) =
    (source < events s) × Contradictory E s.bounds × (i < length s.bounds) × ((knot : ℕ → Bool) × Knot E s.bounds knot × (x ≡ knot i))
Knots E s source i (Err NoSuchSource) = events s ≤ source
Knots E s source i (Err NotContradictory) = (source < events s) × Consistent E s.bounds
Knots E s source i (Err NoSuchBound) = (source < events s) × Contradictory E s.bounds × (length s.bounds ≤ i)
Knots E s source i (Err NoSuchEvent) = ⊥
Knots E s source i (Err IsContradictory) = ⊥

-- a need is met when every timetable that keeps the bounds has TO not later than FROM + MOST
abbrev pub Met : Enough → List BoundModel → ℕ → ℕ → ℤ → Type 0
Met E bs from to most = (t : Timetable) → KeepsAll E bs t → t to ≤ℤ (t from +ℤ most)

-- one that keeps them has TO later
abbrev pub Broken : Enough → List BoundModel → ℕ → ℕ → ℤ → Type 0
Broken E bs from to most = (t : Timetable) × KeepsAll E bs t × ((t from +ℤ most) <ℤ t to)

-- the verdict on a need whose FROM is the source
abbrev pub Judges : Enough → PlainSheet → ℕ → ℕ → ℤ → Result Bool Refusal → Type 0
Judges E s source to most (Ok true) = (source < events s) × (to < events s) × Consistent E s.bounds × Met E s.bounds source to most
Judges E s source to most (Ok false) = (source < events s) × (to < events s) × Broken E s.bounds source to most
Judges E s source to most (Err refusal) = Unread E s source to refusal
