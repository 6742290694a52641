-- The rule sets that ship, by number.
use Rattle.std.specs.Prelude.{ℕ, cond, Some, None, Option, ◌==◌}
use Rattle.rules.specs.Laws.{Admits, Enough}
use Rattle.rules.specs.Sets.{plain_admits, plain_enough, vote_admits, vote_enough, group_admits, group_enough}
use Rattle.embed.specs.declared.rule_choice.RuleChoice.{RuleChoice}
use Rattle.embed.specs.declared.rule_choice.RuleChoice.TheVariants.{Plain, Vote, Group}

abbrev pub rule_numbered : ℕ → Option RuleChoice
rule_numbered n = cond (n == 0) (Some Plain) (cond (n == 1) (Some Vote) (cond (n == 2) (Some Group) None))

-- what each admits, and which sets are enough
abbrev pub admits_by : RuleChoice → Admits
admits_by Plain = plain_admits
admits_by Vote = vote_admits
admits_by Group = group_admits

abbrev pub enough_by : RuleChoice → Enough
enough_by Plain = plain_enough
enough_by Vote = vote_enough
enough_by Group = group_enough
