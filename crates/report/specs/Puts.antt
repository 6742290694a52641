-- What is printed by the answers of a settled sheet, refusals included; the program's side of `Report`.
use Rattle.std.specs.Prelude.{ℕ, zero, suc, Bool, true, false, cond, List, [], ◌∷◌, ◌++◌, length, ℤ, Some, None, Ok, Err, codes, Option, Result}
use Rattle.std.specs.List.{slice_get}
use Rattle.sheet.specs.Plain.{PlainSheet}
use Rattle.sheet.specs.declared.fault.Refusal.{Refusal}
use Rattle.sheet.specs.declared.fault.Refusal.TheVariants.{NoSuchSource, NoSuchEvent, NoSuchBound, Contradictory, NotContradictory}
use Rattle.settle.specs.declared.reading.Reading.{Reading}
use Rattle.settle.specs.Held.{within}
use Rattle.settle.specs.Promise.{ReadAnswers}
use Rattle.records.specs.declared.entry.Need.{Need}
use Rattle.report.specs.Lines.{printed, at_line, separation_field}
use Rattle.std.specs.Fmt.{signed_decimal}

-- knot says yes
abbrev pub said_yes : Result Bool Refusal → Bool
said_yes (Ok b) = b
said_yes (Err refusal) = false

-- read says that the sheet is contradictory
abbrev pub said_contradictory : Result Reading Refusal → Bool
said_contradictory (Ok x) = false
said_contradictory (Err NoSuchSource) = false
said_contradictory (Err NoSuchEvent) = false
said_contradictory (Err NoSuchBound) = false
said_contradictory (Err Contradictory) = true
said_contradictory (Err NotContradictory) = false

-- an event with its name and what is read of it
abbrev pub place_put : Option (List ℕ) → Result Reading Refusal → List ℕ
place_put (Some name) (Ok x) = at_line name x.place
place_put (Some name) (Err refusal) = []
place_put None r = []

-- the first n events
abbrev pub places_put : List (List ℕ) → ReadAnswers → ℕ → List ℕ
places_put names read zero = []
places_put names read (suc n) = places_put names read n ++ place_put (slice_get names n) (read n)

abbrev pub verdict_word : Bool → List ℕ
verdict_word met = cond met (codes "met") (codes "broken")

-- the line of a need
abbrev pub verdict_line : ℤ → List ℕ → List ℕ → Option ℤ → Bool → List ℕ
verdict_line most from to separation met = printed (codes "need" ∷ from ∷ to ∷ signed_decimal most ∷ verdict_word met ∷ separation_field separation ∷ [])

-- a need by the names of its events, and what is read of TO; then the places, unless it is met
abbrev pub need_put : ℤ → Option (List ℕ) → Option (List ℕ) → Result Reading Refusal → List ℕ → List ℕ
need_put most (Some from) (Some to) (Ok x) places =
    verdict_line most from to x.separation (within most x.separation) ++ cond (within most x.separation) [] places
need_put most (Some from) (Some to) (Err refusal) places = []
need_put most (Some from) None r places = []
need_put most None to r places = []

abbrev pub need_put_by : PlainSheet → ReadAnswers → Need → List ℕ
need_put_by s read need =
    need_put need.most (slice_get s.names need.from) (slice_get s.names need.to) (read need.to) (places_put s.names read (length s.names))
