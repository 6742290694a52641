-- What the calls are to answer, by the number of the rule set.
use Rattle.std.specs.Prelude.{◌≡◌, ℕ, Bool, List, ℤ, Result}
use Rattle.embed.specs.declared.failure.Failure.{Failure}
use Rattle.embed.specs.Answers.{Under}
use Rattle.embed.specs.Asking.{TextJudges, TextNumbers}
use Rattle.embed.specs.Opened.{sheet_of_text}
use Rattle.embed.specs.Rules.{rule_numbered, admits_by, enough_by}
use Rattle.embed.specs.Settling.{Slots, TextSettles}

abbrev pub SettlesUnder : ℕ → List ℕ → ℕ → Slots → Slots → Result ℕ Failure → Type 0
SettlesUnder rules text source before after =
    Under (rule_numbered rules) (λ by. TextSettles (enough_by by) (sheet_of_text (admits_by by) text) source before after) (after ≡ before)

-- the other calls fill nothing
abbrev pub JudgesUnder : ℕ → List ℕ → ℕ → ℕ → ℤ → Result Bool Failure → Type 0
JudgesUnder rules text from to most = Under (rule_numbered rules) (λ by. TextJudges (enough_by by) (sheet_of_text (admits_by by) text) from to most) (Unit {0})

abbrev pub NumbersUnder : ℕ → List ℕ → List ℕ → Result ℕ Failure → Type 0
NumbersUnder rules text name = Under (rule_numbered rules) (λ by. TextNumbers (sheet_of_text (admits_by by) text) name) (Unit {0})
