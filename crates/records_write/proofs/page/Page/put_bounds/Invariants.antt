use Rattle.std.proofs.Common.{take}
use Rattle.std.specs.List.{flat_map, AllByRecursion}
use Rattle.timing.specs.Bounds.{bound_of}
use Rattle.records_write.specs.Shown.{names_of, Puts}
use Rattle.records_write.specs.Writes.{limit_fields, line_of, ByteSized}
use Rattle.records_write.proofs.page.Page.put_bounds.Given as goal

abbrev pub invariant-loop-bound : goal.invariant-loop-bound
invariant-loop-bound l =
    Puts l.initial.self (flat_map (λ b. line_of (limit_fields (names_of l.initial.self) (bound_of b))) (take l.bound-index l.bounds)) l.self
    × AllByRecursion (λ b. ByteSized (bound_of b)) (take l.bound-index l.bounds)
