-- What is printed for a text, which is loaded with the vote set and 64 slots.
use Rattle.std.specs.Prelude.{◌≡◌, ℕ, Bool, ◌⊎◌, List, [], ◌∷◌, ◌++◌, length, Ok, Err, codes, Result}
use Rattle.rules.specs.Sets.{vote_admits, vote_enough}
use Rattle.timing.specs.Limits.{delay_limit}
use Rattle.timing.specs.Timetables.{Timetable, Contradictory}
use Rattle.timing.specs.Places.{separation}
use Rattle.timing.specs.Knots.{Knot}
use Rattle.sheet.specs.Plain.{PlainSheet}
use Rattle.settle.specs.Held.{events}
use Rattle.settle.specs.Meaning.{PlacesFrom, Consistent, Met, Broken}
use Rattle.records.specs.declared.entry.Need.{Need}
use Rattle.records_fault.specs.declared.fault.LoadFault.{LoadFault}
use Rattle.records.specs.Loads.{State, loaded}
use Rattle.report.specs.Lines.{fault_line, knot_lines, at_lines, need_line}

-- a need: met where every timetable that keeps the bounds meets it; after a broken one the places of all events
abbrev pub NeedPrinted : PlainSheet → Need → List ℕ → Type 0
NeedPrinted s need out =
    (p : Timetable) × PlacesFrom vote_enough s need.from p
    × ((Met vote_enough s.bounds need.from need.to need.most
    × (out ≡ need_line s.names need (codes "met") (separation delay_limit p need.to)))
    ⊎ (Broken vote_enough s.bounds need.from need.to need.most
    × (out ≡ need_line s.names need (codes "broken") (separation delay_limit p need.to) ++ at_lines s.names p (events s))))

-- needs in their order
abbrev pub NeedsPrinted : PlainSheet → List Need → List ℕ → Type 0
NeedsPrinted s [] out = out ≡ []
NeedsPrinted s (need ∷ needs) out =
    (first : List ℕ) × (rest : List ℕ) × NeedPrinted s need first × NeedsPrinted s needs rest × (out ≡ first ++ rest)

-- a contradictory sheet: its knot, and no need; any other: its needs
abbrev pub Findings : PlainSheet → List Need → List ℕ → Type 0
Findings s needs out =
    (Contradictory vote_enough s.bounds × ((knot : ℕ → Bool) × Knot vote_enough s.bounds knot × (out ≡ knot_lines knot (length s.bounds))))
    ⊎ (Consistent vote_enough s.bounds × NeedsPrinted s needs out)

-- what is added to the bytes before is such a text
abbrev pub Puts : (List ℕ → Type 0) → List ℕ → List ℕ → Type 0
Puts Is before after = (text : List ℕ) × Is text × (after ≡ before ++ text)

abbrev pub ReportsLoaded : Result State LoadFault → List ℕ → Type 0
ReportsLoaded (Ok state) out = Findings state.sheet state.needs out
ReportsLoaded (Err fault) out = out ≡ fault_line fault

-- what is printed for a text
abbrev pub Reports : List ℕ → List ℕ → Type 0
Reports text out = ReportsLoaded (loaded vote_admits 64 text) out
