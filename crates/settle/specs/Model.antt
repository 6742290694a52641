-- What a settled sheet stands for, and what it answers.
use Rattle.std.specs.Prelude.{ℕ, Bool, ℤ, Result}
use Rattle.rules.specs.declared.RuleSet.{Ghosts}
use Rattle.rules.specs.Laws.{Enough}
use Rattle.sheet.specs.Model.{sheet_of}
use Rattle.sheet.specs.Plain.{PlainSheet}
use Rattle.sheet.specs.declared.fault.Refusal.{Refusal}
use Rattle.settle.specs.declared.reading.Reading.{Reading}
use Rattle.settle.specs.declared.settled.Settled.{Settled}
use Rattle.settle.specs.Held.{read_held, knot_held, verdict_on}
use Rattle.settle.specs.Meaning.{Right}

-- its events and bounds
abbrev pub standing : {R : Type 0} {G : Ghosts R} → Settled R G → PlainSheet
standing t = sheet_of t.drawn

-- what read answers for an event, knot for a bound, and the verdict on a need
abbrev pub read_of : {R : Type 0} {G : Ghosts R} → Settled R G → ℕ → Result Reading Refusal
read_of t = read_held (standing t) t.found

abbrev pub knot_of : {R : Type 0} {G : Ghosts R} → Settled R G → ℕ → Result Bool Refusal
knot_of t = knot_held (standing t) t.found

abbrev pub verdict_of : {R : Type 0} {G : Ghosts R} → Settled R G → ℕ → ℤ → Result Bool Refusal
verdict_of t to most = verdict_on most (read_of t to)

-- what it holds is right, for what the rules mean
abbrev pub HoldsRight : {R : Type 0} {G : Ghosts R} → Enough → Settled R G → Type 0
HoldsRight E t = Right E (standing t) t.source t.found
