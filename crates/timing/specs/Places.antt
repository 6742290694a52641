-- The places of a sheet from a source: which events are open, and the separations of the others.
use Rattle.std.specs.Prelude.{◌≡◌, ℕ, ◌*◌, ◌<◌, cond, List, ℤ, pos, ◌≤ℤ◌, ◌<ℤ◌, Some, None, Option, int_lt}
use Rattle.rules.specs.Laws.{Enough}
use Rattle.timing.specs.Model.{BoundModel}
use Rattle.timing.specs.Timetables.{Timetable, KeepsAll}

-- no event is put after the far mark
abbrev pub far_mark : ℕ → ℤ
far_mark D = pos (1000 * D)

-- a separation lies within this span of the source, either way
abbrev pub span : ℕ → ℤ
span D = pos (63 * D)

-- a timetable is eligible that keeps all bounds, has the source at 0 and none of the n events after the far mark
pub record Eligible (E : Enough) (D n source : ℕ) (bs : List BoundModel) (t : Timetable) : Type 0 where
  pub keeps : KeepsAll E bs t
  pub starts : t source ≡ pos 0
  pub near : (e : ℕ) → e < n → t e ≤ℤ far_mark D

-- the places are the latest of these: none puts any event later
pub record Places (E : Enough) (D n source : ℕ) (bs : List BoundModel) (p : Timetable) : Type 0 where
  pub eligible : Eligible E D n source bs p
  pub latest : (t : Timetable) → Eligible E D n source bs t → (e : ℕ) → e < n → t e ≤ℤ p e

-- an event is open when its place is after that span
abbrev pub Open : ℕ → Timetable → ℕ → Type 0
Open D p e = span D <ℤ p e

-- any other event's separation is its place
abbrev pub separation : ℕ → Timetable → ℕ → Option ℤ
separation D p e = cond (int_lt (span D) (p e)) None (Some (p e))
