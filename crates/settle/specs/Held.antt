-- What the calls on a settled sheet answer, from what settling found.
use Rattle.std.specs.Prelude.{ℕ, Bool, false, cond, length, ℤ, Some, None, Ok, Err, Option, Result, int_le, nat_lt, slice_index_or}
use Rattle.timing.specs.Limits.{delay_limit}
use Rattle.timing.specs.Timetables.{Timetable, times}
use Rattle.timing.specs.Places.{separation}
use Rattle.sheet.specs.Plain.{PlainSheet}
use Rattle.sheet.specs.declared.fault.Refusal.{Refusal}
use Rattle.sheet.specs.declared.fault.Refusal.TheVariants.{NoSuchSource, NoSuchEvent, NoSuchBound, Contradictory, NotContradictory}
use Rattle.settle.specs.declared.reading.Reading.{Reading}
use Rattle.settle.specs.declared.settled.Found.{Found}
use Rattle.settle.specs.declared.settled.Found.TheVariants.{NoSource, Placed, Knotted}

-- how many events a sheet has
abbrev pub events : PlainSheet → ℕ
events s = length s.names

-- an event's reading, by the places of the sheet
abbrev pub reading_of : Timetable → ℕ → Reading
reading_of p e = record { separation = separation delay_limit p e; place = p e }

-- the reading of an event at a place
abbrev pub reading_at : ℤ → Reading
reading_at place = reading_of (λ _. place) 0

-- read
abbrev pub read_held : PlainSheet → Found → ℕ → Result Reading Refusal
read_held s NoSource e = Err NoSuchSource
read_held s (Placed places) e = cond (nat_lt e (events s)) (Ok (reading_of (times places) e)) (Err NoSuchEvent)
read_held s (Knotted flags) e = cond (nat_lt e (events s)) (Err Contradictory) (Err NoSuchEvent)

-- knot
abbrev pub knot_held : PlainSheet → Found → ℕ → Result Bool Refusal
knot_held s NoSource i = Err NoSuchSource
knot_held s (Placed places) i = Err NotContradictory
knot_held s (Knotted flags) i = cond (nat_lt i (length s.bounds)) (Ok (slice_index_or flags i false)) (Err NoSuchBound)

-- the verdict on a need: met where the event has a separation, and that is at most MOST
abbrev pub within : ℤ → Option ℤ → Bool
within most (Some v) = int_le v most
within most None = false

abbrev pub verdict_on : ℤ → Result Reading Refusal → Result Bool Refusal
verdict_on most (Ok x) = Ok (within most x.separation)
verdict_on most (Err refusal) = Err refusal
