-- What is proved of the definitions.
use Rattle.std.specs.Prelude.{◌≡◌, ℕ, Bool, ℤ, Result}
use Rattle.rules.specs.Laws.{Enough}
use Rattle.sheet.specs.Plain.{PlainSheet}
use Rattle.sheet.specs.declared.fault.Refusal.{Refusal}
use Rattle.settle.specs.declared.reading.Reading.{Reading}
use Rattle.settle.specs.Meaning.{Reads, Knots, Judges}

-- at most one answer meets the definition
abbrev pub AtMostOne : {X : Type 0} → (X → Type 0) → Type 0
AtMostOne {X} Defined = (x y : X) → Defined x → Defined y → x ≡ y

abbrev pub AnswersAreUnique : Type 0
AnswersAreUnique =
    (E : Enough) (s : PlainSheet) (source : ℕ)
    → ((e : ℕ) → AtMostOne {X = Result Reading Refusal} (Reads E s source e))
    × ((i : ℕ) → AtMostOne {X = Result Bool Refusal} (Knots E s source i))
    × ((to : ℕ) (most : ℤ) → AtMostOne {X = Result Bool Refusal} (Judges E s source to most))
