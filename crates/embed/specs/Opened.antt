-- The sheet of a text, loaded with 64 slots for needs.
use Rattle.std.specs.Prelude.{◌≡◌, ℕ, List, Ok, Err, Result}
use Rattle.rules.specs.declared.RuleSet.{Ghosts}
use Rattle.rules.specs.Laws.{Admits}
use Rattle.sheet.specs.declared.drawn.Drawn.{Drawn}
use Rattle.sheet.specs.Model.{sheet_of}
use Rattle.sheet.specs.Plain.{PlainSheet}
use Rattle.records_fault.specs.declared.fault.LoadFault.{LoadFault}
use Rattle.records.specs.Loads.{State, loaded}
use Rattle.embed.specs.declared.failure.Failure.{Failure}
use Rattle.embed.specs.declared.failure.Failure.TheVariants.{NoSuchRules, Text, Sheet, TooFewSlots, TooFewBytes, NoMemory}

abbrev pub sheet_in : Result State LoadFault → Result PlainSheet LoadFault
sheet_in (Ok state) = Ok state.sheet
sheet_in (Err fault) = Err fault

-- the sheet that a text says, or its first fault
abbrev pub sheet_of_text : Admits → List ℕ → Result PlainSheet LoadFault
sheet_of_text admits text = sheet_in (loaded admits 64 text)

-- a text was opened as is defined, or memory is wanting
abbrev pub Opens : {R : Type 0} {G : Ghosts R} → Admits → R → List ℕ → Result (Drawn R G) Failure → Type 0
Opens admits rules text (Ok d) = (sheet_of_text admits text ≡ Ok (sheet_of d)) × (d.rules ≡ rules)
Opens admits rules text (Err (Text fault)) = sheet_of_text admits text ≡ Err fault
Opens admits rules text (Err NoMemory) = Unit {0}
Opens admits rules text (Err NoSuchRules) = ⊥
Opens admits rules text (Err (Sheet refusal)) = ⊥
Opens admits rules text (Err TooFewSlots) = ⊥
Opens admits rules text (Err TooFewBytes) = ⊥
