-- What one question to the sheet of a text answers.
use Rattle.std.specs.Prelude.{◌≡◌, ℕ, Bool, ◌⊎◌, List, ℤ, Some, None, Ok, Err, Option, Result}
use Rattle.rules.specs.Laws.{Enough}
use Rattle.sheet.specs.Plain.{PlainSheet, number_in}
use Rattle.sheet.specs.declared.fault.Refusal.{Refusal}
use Rattle.sheet.specs.declared.fault.Refusal.TheVariants.{NoSuchEvent}
use Rattle.settle.specs.Meaning.{Judges}
use Rattle.records_fault.specs.declared.fault.LoadFault.{LoadFault}
use Rattle.embed.specs.declared.failure.Failure.{Failure}
use Rattle.embed.specs.declared.failure.Failure.TheVariants.{Text, Sheet, NoMemory}

-- so, unless memory is wanting
abbrev pub OrNoMemory : {X : Type 0} → Result X Failure → Type 0 → Type 0
OrNoMemory r P = (r ≡ Err NoMemory) ⊎ P

-- a verdict: whether the need is met
abbrev pub verdict_said : Result Bool Refusal → Result Bool Failure
verdict_said (Ok met) = Ok met
verdict_said (Err refusal) = Err (Sheet refusal)

abbrev pub JudgesLoaded : Enough → Result PlainSheet LoadFault → ℕ → ℕ → ℤ → Result Bool Failure → Type 0
JudgesLoaded E (Ok s) from to most r = (verdict : Result Bool Refusal) × Judges E s from to most verdict × (r ≡ verdict_said verdict)
JudgesLoaded E (Err fault) from to most r = r ≡ Err (Text fault)

abbrev pub TextJudges : Enough → Result PlainSheet LoadFault → ℕ → ℕ → ℤ → Result Bool Failure → Type 0
TextJudges E said from to most r = OrNoMemory r (JudgesLoaded E said from to most r)

-- the number of an event
abbrev pub number_said : Option ℕ → Result ℕ Failure
number_said (Some number) = Ok number
number_said None = Err (Sheet NoSuchEvent)

abbrev pub number_asked : Result PlainSheet LoadFault → List ℕ → Result ℕ Failure
number_asked (Ok s) name = number_said (number_in s.names name)
number_asked (Err fault) name = Err (Text fault)

abbrev pub TextNumbers : Result PlainSheet LoadFault → List ℕ → Result ℕ Failure → Type 0
TextNumbers said name r = OrNoMemory r (r ≡ number_asked said name)
