-- What settling the sheet of a text answers, and what then stands in the slots.
use Rattle.std.specs.Prelude.{◌≡◌, ℕ, ◌<◌, ◌≤◌, Bool, true, false, ◌⊎◌, List, [], ◌∷◌, ◌++◌, map, length, drop, ℤ, pos, Some, None, Ok, Err, Option, Result}
use Rattle.std.specs.List.{range_with_len}
use Rattle.rules.specs.Laws.{Enough}
use Rattle.timing.specs.Timetables.{Timetable, Contradictory}
use Rattle.timing.specs.Knots.{Knot}
use Rattle.sheet.specs.Plain.{PlainSheet}
use Rattle.sheet.specs.declared.fault.Refusal.{Refusal}
use Rattle.sheet.specs.declared.fault.Refusal.TheVariants.{NoSuchSource, NoSuchEvent, NoSuchBound, Contradictory as IsContradictory, NotContradictory}
use Rattle.settle.specs.declared.reading.Reading.{Reading}
use Rattle.settle.specs.Held.{events, reading_of}
use Rattle.settle.specs.Meaning.{PlacesFrom}
use Rattle.records_fault.specs.declared.fault.LoadFault.{LoadFault}
use Rattle.records_fault.specs.Faults.{load_number, load_place}
use Rattle.embed.specs.declared.failure.Failure.{Failure}
use Rattle.embed.specs.declared.failure.Failure.TheVariants.{NoSuchRules, Text, Sheet, TooFewSlots, TooFewBytes, NoMemory}
use Rattle.embed.specs.declared.slots.EventReading.{EventReading}
use Rattle.embed.specs.declared.slots.FaultPlace.{FaultPlace}

-- a reading as it is handed out: its place; its separation, or 0; whether it is open
abbrev pub slot_at : ℤ → Option ℤ → EventReading
slot_at place (Some v) = record { place = place; separation = v; «open» = 0 }
slot_at place None = record { place = place; separation = pos 0; «open» = 1 }

abbrev pub slot_of : Reading → EventReading
slot_of x = slot_at x.place x.separation

-- a bound in the knot is handed out as 1, any other as 0
abbrev pub flag_of : Bool → ℕ
flag_of true = 1
flag_of false = 0

-- what read and knot answer, as it is handed out
abbrev pub slot_said : Result Reading Refusal → EventReading
slot_said (Ok x) = slot_of x
slot_said (Err refusal) = record { place = pos 0; separation = pos 0; «open» = 0 }

abbrev pub flag_said : Result Bool Refusal → ℕ
flag_said (Ok x) = flag_of x
flag_said (Err refusal) = 0

-- the first slots are filled, those after them stay
abbrev pub filled : {X : Type 0} → (ℕ → X) → ℕ → List X → List X
filled f n slots = map f (range_with_len 0 n) ++ drop n slots

-- a fault as it is handed out: its number, and its place
abbrev pub place_of : LoadFault → FaultPlace
place_of fault = record { number = load_number fault; line = (load_place fault).line; field = (load_place fault).field }

-- the first slot, if there is one, holds a fault and its place
abbrev pub noted : LoadFault → List FaultPlace → List FaultPlace
noted fault [] = []
noted fault (slot ∷ slots) = place_of fault ∷ slots

abbrev pub fault_noted : Failure → List FaultPlace → List FaultPlace
fault_noted (Text fault) slots = noted fault slots
fault_noted NoSuchRules slots = slots
fault_noted (Sheet refusal) slots = slots
fault_noted TooFewSlots slots = slots
fault_noted TooFewBytes slots = slots
fault_noted NoMemory slots = slots

-- the source is an event, and there is a slot for each event and a byte for each bound
pub record Ready (s : PlainSheet) (source : ℕ) (slots : List EventReading) (flags : List ℕ) : Type 0 where
  pub known : source < events s
  pub wide : events s ≤ length slots
  pub long : length s.bounds ≤ length flags

-- a sheet: the first answer whose reason holds; what is not filled stays
abbrev pub SheetSettles : Enough → PlainSheet → ℕ → List EventReading → List ℕ → List EventReading → List ℕ → Result ℕ Failure → Type 0
SheetSettles E s source slots flags slots' flags' (Ok n) =
    Ready s source slots flags × (n ≡ events s) × (flags' ≡ flags)
    × ((p : Timetable) × PlacesFrom E s source p × (slots' ≡ filled (λ e. slot_of (reading_of p e)) (events s) slots))
SheetSettles E s source slots flags slots' flags' (Err (Sheet NoSuchSource)) = (events s ≤ source) × (slots' ≡ slots) × (flags' ≡ flags)
SheetSettles E s source slots flags slots' flags' (Err TooFewSlots) =
    (source < events s) × ((length slots < events s) ⊎ (length flags < length s.bounds)) × (slots' ≡ slots) × (flags' ≡ flags)
SheetSettles E s source slots flags slots' flags' (Err (Sheet IsContradictory)) =
    Ready s source slots flags × Contradictory E s.bounds × (slots' ≡ slots)
    × ((knot : ℕ → Bool) × Knot E s.bounds knot × (flags' ≡ filled (λ i. flag_of (knot i)) (length s.bounds) flags))
SheetSettles E s source slots flags slots' flags' (Err (Sheet NoSuchEvent)) = ⊥
SheetSettles E s source slots flags slots' flags' (Err (Sheet NoSuchBound)) = ⊥
SheetSettles E s source slots flags slots' flags' (Err (Sheet NotContradictory)) = ⊥
SheetSettles E s source slots flags slots' flags' (Err (Text fault)) = ⊥
SheetSettles E s source slots flags slots' flags' (Err NoSuchRules) = ⊥
SheetSettles E s source slots flags slots' flags' (Err TooFewBytes) = ⊥
SheetSettles E s source slots flags slots' flags' (Err NoMemory) = ⊥

-- what is handed in
pub record Slots : Type 0 where
  pub readings : List EventReading
  pub flags : List ℕ
  pub fault : List FaultPlace

abbrev pub handed : List EventReading → List ℕ → List FaultPlace → Slots
handed readings flags fault = record { readings = readings; flags = flags; fault = fault }

-- a text that loads: its sheet; any other: its fault
abbrev pub SettlesLoaded : Enough → Result PlainSheet LoadFault → ℕ → Slots → Slots → Result ℕ Failure → Type 0
SettlesLoaded E (Ok s) source before after r =
    SheetSettles E s source before.readings before.flags after.readings after.flags r × (after.fault ≡ before.fault)
SettlesLoaded E (Err fault) source before after r =
    (r ≡ Err (Text fault)) × (after.readings ≡ before.readings) × (after.flags ≡ before.flags) × (after.fault ≡ noted fault before.fault)

-- so, unless memory is wanting: then nothing is filled
abbrev pub TextSettles : Enough → Result PlainSheet LoadFault → ℕ → Slots → Slots → Result ℕ Failure → Type 0
TextSettles E said source before after r = ((r ≡ Err NoMemory) × (after ≡ before)) ⊎ SettlesLoaded E said source before after r
