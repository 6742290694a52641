-- What a field says: a name, an event, a number, or nothing.
use Rattle.std.specs.Prelude.{ℕ, ◌+◌, cond, List, [], ◌∷◌, ℤ, pos, neg_ℤ, is_some, Some, None, Ok, Err, Option, Result, unsigned_abs}
use Rattle.std.specs.Option.{ok_or}
use Rattle.std.specs.Str.{bytes_eq}
use Rattle.text.specs.declared.fault.Place.{Place}
use Rattle.text.specs.Checks.{and_then}
use Rattle.text.specs.Names.{is_name}
use Rattle.text.specs.Numerals.{numeral, ranged}
use Rattle.timing.specs.Limits.{delay_limit}
use Rattle.sheet.specs.Plain.{number_in}
use Rattle.records_fault.specs.declared.fault.RecordFault.{RecordFault}
use Rattle.records_fault.specs.declared.fault.RecordFault.TheVariants.{MalformedName, BadNumeral}
use Rattle.records_fault.specs.declared.fault.LoadFault.{LoadFault}
use Rattle.records_fault.specs.declared.fault.LoadFault.TheVariants.{Record, NameTaken, NoSuchEvent}

-- an answer of another type
abbrev pub map_ok : {A B E : Type 0} → (A → B) → Result A E → Result B E
map_ok f (Ok x) = Ok (f x)
map_ok f (Err e) = Err e

-- a fault carried up
abbrev pub carried : {A D E : Type 0} → (D → E) → Result A D → Result A E
carried g (Ok x) = Ok x
carried g (Err e) = Err (g e)

-- the place of the field with index k on line n, whose word has index 0
abbrev pub placed : ℕ → ℕ → Place
placed n k = record { line = n; field = k + 1 }

-- a well-formed name
abbrev pub name_at : Place → List ℕ → Result (List ℕ) RecordFault
name_at place bytes = cond (is_name bytes) (Ok bytes) (Err (MalformedName place))

-- a number from least to most
abbrev pub number_at : ℤ → ℤ → Place → List ℕ → Result ℤ RecordFault
number_at least most place bytes = carried (λ _. BadNumeral place) (ranged least most (numeral bytes))

-- a delay
abbrev pub delay_at : Place → List ℕ → Result ℤ RecordFault
delay_at place bytes = number_at (neg_ℤ (pos delay_limit)) (pos delay_limit) place bytes

-- a delay, or - for none
abbrev pub side_at : Place → List ℕ → Result (Option ℤ) RecordFault
side_at place bytes = cond (bytes_eq bytes (45 ∷ [])) (Ok None) (map_ok Some (delay_at place bytes))

-- a kind or a K
abbrev pub byte_at : Place → List ℕ → Result ℕ RecordFault
byte_at place bytes = map_ok unsigned_abs (number_at (pos 0) (pos 255) place bytes)

-- how far a need may go
abbrev pub most_at : Place → List ℕ → Result ℤ RecordFault
most_at place bytes = number_at (neg_ℤ (pos 63000000)) (pos 63000000) place bytes

-- the number of the event that is named, where the events have these names
abbrev pub event_at : List (List ℕ) → Place → List ℕ → Result ℕ LoadFault
event_at names place bytes = and_then (carried Record (name_at place bytes)) (λ name. ok_or (number_in names name) (NoSuchEvent place))

-- a name that no event has
abbrev pub fresh_at : List (List ℕ) → Place → List ℕ → Result (List ℕ) LoadFault
fresh_at names place bytes =
    and_then (carried Record (name_at place bytes)) (λ name. cond (is_some (number_in names name)) (Err (NameTaken place)) (Ok name))
