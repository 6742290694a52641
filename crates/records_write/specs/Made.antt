-- The sheets that the calls can make. Only event, bound and strike change a sheet.
use Rattle.std.specs.Prelude.{◌≡◌, ℕ, List, [], ◌∷◌, Ok}
use Rattle.rules.specs.Laws.{Admits}
use Rattle.timing.specs.Model.{BoundModel}
use Rattle.sheet.specs.Plain.{PlainSheet, new_sheet, event_call, bound_call, strike_call}
use Rattle.records.specs.Loads.{loaded}
use Rattle.records_write.specs.Writes.{written}

-- a call, accepted or refused
pub data Step : Type 0 where
  an_event : List ℕ → Step
  a_bound : BoundModel → Step
  a_strike : ℕ → Step

abbrev pub after_step : Admits → PlainSheet → Step → PlainSheet
after_step admits s (an_event name) = (event_call s name).after
after_step admits s (a_bound b) = (bound_call admits s b).after
after_step admits s (a_strike i) = (strike_call s i).after

abbrev pub after_steps : Admits → PlainSheet → List Step → PlainSheet
after_steps admits s [] = s
after_steps admits s (step ∷ steps) = after_steps admits (after_step admits s step) steps

-- whatever calls made the sheet from a new one, loading its text under its rules, with any number of slots, gives that sheet and no need
abbrev pub MadeLoadsBack : Admits → PlainSheet → Type 0
MadeLoadsBack admits s =
    (steps : List Step) → s ≡ after_steps admits new_sheet steps → (slots : ℕ) → loaded admits slots (written s) ≡ Ok (record { sheet = s; needs = [] })
