-- What a text says: line by line, into a new sheet and blank slots.
use Rattle.std.specs.Prelude.{◌≡◌, ℕ, ◌+◌, ◌-◌, Bool, cond, List, [], ◌∷◌, ◌++◌, length, take, drop, replicate, pos, Ok, Err, Result, nat_lt}
use Rattle.rules.specs.Laws.{Admits}
use Rattle.text.specs.Checks.{and_then, whole_text}
use Rattle.text.specs.Split.{lines_of}
use Rattle.timing.specs.Model.{BoundModel}
use Rattle.sheet.specs.Plain.{PlainSheet, new_sheet}
use Rattle.records.specs.declared.entry.Need.{Need}
use Rattle.records_fault.specs.declared.fault.RecordFault.TheVariants.{Text}
use Rattle.records_fault.specs.declared.fault.LoadFault.{LoadFault}
use Rattle.records_fault.specs.declared.fault.LoadFault.TheVariants.{Record, TooManyEvents, TooManyBounds, NotAdmitted, NoSlot}
use Rattle.records.specs.Fields.{carried, map_ok}
use Rattle.records.specs.Entries.{Said, an_event, some_bounds, a_need, line_says}

-- what the lines so far have made
pub record State : Type 0 where
  pub sheet : PlainSheet
  pub needs : List Need

abbrev pub start : State
start = record { sheet = new_sheet; needs = [] }

-- the rules admit a bound
abbrev pub admitted : Admits → BoundModel → Bool
admitted admits b = admits b.kind b.k (length b.terms)

-- line n adds an event, where there are not 64 already
abbrev pub event_added : ℕ → PlainSheet → List ℕ → Result PlainSheet LoadFault
event_added n s name = cond (nat_lt (length s.names) 64) (Ok (record { names = s.names ++ (name ∷ []); bounds = s.bounds })) (Err (TooManyEvents n))

-- it adds a bound that the rules admit, where there are not 256 already
abbrev pub bound_added : Admits → ℕ → PlainSheet → BoundModel → Result PlainSheet LoadFault
bound_added admits n s b =
    cond (admitted admits b)
    (cond (nat_lt (length s.bounds) 256) (Ok (record { names = s.names; bounds = s.bounds ++ (b ∷ []) })) (Err (TooManyBounds n)))
    (Err (NotAdmitted n))

-- the bounds of a line, one after another
abbrev pub bounds_added : Admits → ℕ → PlainSheet → List BoundModel → Result PlainSheet LoadFault
bounds_added admits n s [] = Ok s
bounds_added admits n s (b ∷ bs) = and_then (bound_added admits n s b) (λ t. bounds_added admits n t bs)

-- what line n adds, by what it says, under these rules and with so many slots for needs
abbrev pub added : Admits → ℕ → ℕ → State → Said → Result State LoadFault
added admits slots n s (an_event name) = map_ok (λ t. record { sheet = t; needs = s.needs }) (event_added n s.sheet name)
added admits slots n s (some_bounds bounds) = map_ok (λ t. record { sheet = t; needs = s.needs }) (bounds_added admits n s.sheet bounds)
added admits slots n s (a_need need) =
    cond (nat_lt (length s.needs) slots) (Ok (record { sheet = s.sheet; needs = s.needs ++ (need ∷ []) })) (Err (NoSlot n))

-- line n passes all its checks, and adds what it says
abbrev pub line_adds : Admits → ℕ → ℕ → State → List ℕ → Result State LoadFault
line_adds admits slots n s line = and_then (line_says s.sheet.names n line) (added admits slots n s)

-- the lines from line n on, each before the next
abbrev pub lines_add : Admits → ℕ → ℕ → State → List (List ℕ) → Result State LoadFault
lines_add admits slots n s [] = Ok s
lines_add admits slots n s (l ∷ ls) = and_then (line_adds admits slots n s l) (λ t. lines_add admits slots (n + 1) t ls)

-- a whole text
abbrev pub loaded : Admits → ℕ → List ℕ → Result State LoadFault
loaded admits slots text =
    and_then (carried (λ f. Record (Text f)) (whole_text text)) (λ _. lines_add admits slots 1 start (lines_of text))

-- load answers how many needs it read
abbrev pub answer_of : Result State LoadFault → Result ℕ LoadFault
answer_of (Ok s) = Ok (length s.needs)
answer_of (Err fault) = Err fault

-- after a fault the sheet is new
abbrev pub sheet_after : Result State LoadFault → PlainSheet
sheet_after (Ok s) = s.sheet
sheet_after (Err fault) = new_sheet

-- a slot that holds no need: three zeros
abbrev pub blank : Need
blank = record { from = 0; to = 0; most = pos 0 }

-- the needs, and blanks after them; after a fault every slot is blank
abbrev pub slots_after : ℕ → Result State LoadFault → List Need
slots_after slots (Ok s) = s.needs ++ replicate (slots - length s.needs) blank
slots_after slots (Err fault) = replicate slots blank

-- the rules and slots of a load, while it goes on: the needs so far stand in the first `used` slots
abbrev pub state_of : PlainSheet → List Need → ℕ → State
state_of s slots used = record { sheet = s; needs = take used slots }

-- the slots from `used` on are blank
abbrev pub Blank : List Need → ℕ → Type 0
Blank slots used = drop used slots ≡ replicate (length slots - used) blank
