use Rattle.std.proofs.Common.{◌≡◌, ◌≤◌}
use Rattle.sheet.specs.Model.{sheet_of}
use Rattle.bench_hooks.specs.Times.{Counts}
use Rattle.bench_hooks.proofs.settle_sheet_times.Given as goal

abbrev pub invariant-loop-turn : goal.invariant-loop-turn
invariant-loop-turn g l =
    (l.drawn ≡ l.initial.drawn) × (l.count ≤ l._turn)
    × Counts (g.R.RuleSet.suffices l.initial.drawn.rules) (sheet_of l.initial.drawn) l.source l._turn l.count
