-- The plain sheet: a list of names and a list of bounds, and what each call does to it.
use Rattle.std.specs.Prelude.{◌≡◌, ℕ, ◌+◌, ◌-◌, Bool, cond, not, ◌&&◌, List, [], ◌∷◌, ◌++◌, length, take, drop, ℤ, pos, neg_ℤ, is_some, Some, None, Ok, Err, Option, Result, int_le, nat_lt}
use Rattle.std.specs.Option.{option_map}
use Rattle.std.specs.Str.{bytes_eq}
use Rattle.text.specs.Names.{is_name}
use Rattle.rules.specs.Laws.{Admits}
use Rattle.timing.specs.Limits.{delay_limit}
use Rattle.timing.specs.Model.{TermModel, BoundModel}
use Rattle.sheet.specs.declared.fault.CallFault.{CallFault}
use Rattle.sheet.specs.declared.fault.CallFault.TheVariants.{MalformedName, NameTaken, NoSuchEvent, TooManyEvents, TooManyBounds, NotAdmitted, DelayOutOfRange}
use Rattle.sheet.specs.declared.fault.Refusal.{Refusal}
use Rattle.sheet.specs.declared.fault.Refusal.TheVariants.{NoSuchBound}

-- names by event number, bounds by bound number
pub record PlainSheet : Type 0 where
  pub names : List (List ℕ)
  pub bounds : List BoundModel

abbrev pub new_sheet : PlainSheet
new_sheet = record { names = []; bounds = [] }

-- the number of the event with a name
abbrev pub number_in : List (List ℕ) → List ℕ → Option ℕ
number_in [] name = None
number_in (m ∷ ms) name = cond (bytes_eq m name) (Some 0) (option_map (λ i. i + 1) (number_in ms name))

-- what a call answers, and the sheet after it
pub record Outcome (E : Type 0) : Type 0 where
  pub answer : Result ℕ E
  pub after : PlainSheet

-- a refused call changes nothing
unfoldable pub refused : {E : Type 0} → PlainSheet → E → Outcome E
refused s fault = record { answer = Err fault; after = s }

-- event: the name is added at the end
unfoldable pub named : PlainSheet → List ℕ → Outcome CallFault
named s name = record { answer = Ok (length s.names); after = record { names = s.names ++ (name ∷ []); bounds = s.bounds } }

unfoldable pub event_call : PlainSheet → List ℕ → Outcome CallFault
event_call s name =
    cond (not (is_name name)) (refused s MalformedName)
    (cond (is_some (number_in s.names name)) (refused s NameTaken)
    (cond (nat_lt (length s.names) 64) (named s name) (refused s TooManyEvents)))

-- a delay lies from -1,000,000 to 1,000,000 ticks
abbrev pub is_delay : ℤ → Bool
is_delay d = int_le (neg_ℤ (pos delay_limit)) d && int_le d (pos delay_limit)

-- the first fault in the terms of a bound, among n events
abbrev pub terms_fault : ℕ → List TermModel → Option CallFault
terms_fault n [] = None
terms_fault n (t ∷ ts) =
    cond (not (nat_lt t.from n)) (Some NoSuchEvent)
    (cond (not (is_delay t.delay)) (Some DelayOutOfRange)
    (terms_fault n ts))

abbrev pub unless : PlainSheet → Option CallFault → Outcome CallFault → Outcome CallFault
unless s None o = o
unless s (Some fault) o = refused s fault

-- bound: it is added at the end
unfoldable pub bounded : PlainSheet → BoundModel → Outcome CallFault
bounded s b = record { answer = Ok (length s.bounds); after = record { names = s.names; bounds = s.bounds ++ (b ∷ []) } }

unfoldable pub bound_call : Admits → PlainSheet → BoundModel → Outcome CallFault
bound_call admits s b =
    cond (not (admits b.kind b.k (length b.terms))) (refused s NotAdmitted)
    (cond (not (nat_lt b.to (length s.names))) (refused s NoSuchEvent)
    (unless s (terms_fault (length s.names) b.terms)
    (cond (nat_lt (length s.bounds) 256) (bounded s b) (refused s TooManyBounds))))

-- strike: the bound is removed, and later ones fall by one
unfoldable pub struck : PlainSheet → ℕ → Outcome Refusal
struck s i = record { answer = Ok (length s.bounds - 1); after = record { names = s.names; bounds = take i s.bounds ++ drop (i + 1) s.bounds } }

unfoldable pub strike_call : PlainSheet → ℕ → Outcome Refusal
strike_call s i = cond (nat_lt i (length s.bounds)) (struck s i) (refused s NoSuchBound)

-- a call answered r and left the sheet after, as is defined
pub record Gives {E : Type 0} (o : Outcome E) (r : Result ℕ E) (after : PlainSheet) : Type 0 where
  pub answer : r ≡ o.answer
  pub sheet : after ≡ o.after
