-- What is answered, by number.
use Rattle.std.specs.Prelude.{◌≡◌, ℕ, Bool, ℤ, pos, neg_ℤ, Some, None, Ok, Err, Option, Result}
use Rattle.sheet.specs.Faults.{refusal_number}
use Rattle.records_fault.specs.Faults.{load_number}
use Rattle.embed.specs.Settling.{flag_of}
use Rattle.embed.specs.declared.failure.Failure.{Failure}
use Rattle.embed.specs.declared.failure.Failure.TheVariants.{NoSuchRules, Text, Sheet, TooFewSlots, TooFewBytes, NoMemory}

abbrev pub failure_number : Failure → ℕ
failure_number NoSuchRules = 13
failure_number (Text fault) = load_number fault
failure_number (Sheet refusal) = refusal_number refusal
failure_number TooFewSlots = 16
failure_number TooFewBytes = 19
failure_number NoMemory = 1000

-- a value, or minus the number of the failure
abbrev pub answer_number : Result ℕ Failure → ℤ
answer_number (Ok value) = pos value
answer_number (Err failure) = neg_ℤ (pos (failure_number failure))

-- the number of a result that is as defined
abbrev pub Answers : (Result ℕ Failure → Type 0) → ℤ → Type 0
Answers Is r = (result : Result ℕ Failure) × Is result × (r ≡ answer_number result)

-- a verdict by number: 1 where the need is met, 0 where it is broken
abbrev pub verdict_number : Result Bool Failure → Result ℕ Failure
verdict_number (Ok met) = Ok (flag_of met)
verdict_number (Err failure) = Err failure

-- the number of a verdict that is as defined
abbrev pub AsNumber : (Result Bool Failure → Type 0) → Result ℕ Failure → Type 0
AsNumber Is r = (verdict : Result Bool Failure) × Is verdict × (r ≡ verdict_number verdict)

-- under a rule set, if there is one with the number asked for; else that is refused, and what is handed in stays
abbrev pub Under : {Rules X : Type 0} → Option Rules → (Rules → Result X Failure → Type 0) → Type 0 → Result X Failure → Type 0
Under (Some rules) Is Same result = Is rules result
Under None Is Same result = (result ≡ Err NoSuchRules) × Same
