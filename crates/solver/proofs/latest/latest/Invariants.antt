use Rattle.std.proofs.Common.{◌≡◌, ℕ, ◌<◌, Bool, true, length, get_or, ℤ, pos, ◌≤ℤ◌}
use Rattle.solver.specs.Permitted.{reaching}
use Rattle.solver.proofs.latest.latest.Given as goal

-- the best so far is permitted, and no permitted sum that was met is later
abbrev pub invariant-loop-sum : goal.invariant-loop-sum
invariant-loop-sum g l =
    let permits : ℤ → Bool = λ v. g.R.RuleSet.suffices l.rules l.kind l.k (length l.sums) (reaching v l.sums) in
    (permits l.best ≡ true)
    × ((j : ℕ) → j < l.sum-index → permits (get_or l.sums j (pos 0)) ≡ true → get_or l.sums j (pos 0) ≤ℤ l.best)
