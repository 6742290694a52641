use Rattle.std.proofs.Common.{◌≡◌, ◌+◌, length}
use Rattle.text.specs.Reading.{to_come}
use Rattle.text.specs.Split.{lines_of}
use Rattle.records.specs.Loads.{lines_add}
use Rattle.records.specs.Loadings.{state_in, KeepsPlace}
use Rattle.records.proofs.load.Loading.add_text.Given as goal

-- what the whole text gives is what the lines to come give from here
abbrev pub invariant-loop-line : goal.invariant-loop-line
invariant-loop-line g l =
    (lines_add (g.R.RuleSet.admitted l.initial.self.sheet.now.rules) (length l.initial.self.slots.now) 1 (state_in l.initial.self) (lines_of l.text)
    ≡ lines_add (g.R.RuleSet.admitted l.self.sheet.now.rules) (length l.self.slots.now) (l.line-iterator.line + 1) (state_in l.self) (to_come l.line-iterator))
    × KeepsPlace l.initial.self l.self
