use Rattle.std.proofs.Common.{ℕ, ◌<◌, List, length, take, pos, None, sym, subst, arith}
use Rattle.std.specs.List.{AllByRecursion}
use Rattle.std.proofs.lemmas.Result.{err_from_is_err_and}
use Rattle.timing.specs.Limits.{delay_limit}
use Rattle.timing.specs.Model.{BoundWithin}
use Rattle.records.specs.declared.entry.Input.{Input}
use Rattle.records.specs.Entries.{low_bounds}
use Rattle.records.specs.Loadings.{names_in}
use Rattle.records.proofs.Calls.{this, low_of, names_kept, lows_more, lows_stop}
use Rattle.records.proofs.load.Loading.add_lows.Goals as goal

abbrev none : Input
none = record { from = 0; low = None; high = pos 0 }

pub add_low-requires : goal.add_low-requires
add_low-requires g c =
    let is = c.args.inputs.now in
    let i = c.loop-input.input-index in
    let lt : i < length is = omega arith in
    let kept = names_kept c.args.self.now c.loop-input.self (low_bounds c.args.to (take i is)) c.loop-input.invariant in
    subst (λ (names : List (List ℕ)). AllByRecursion (BoundWithin (length names) delay_limit) (this c.args.to is i none lt)) (sym kept)
    (low_of c.args.to is i none lt (BoundWithin (length (names_in c.args.self.now)) delay_limit) c.requires)

pub returns-in_err-add_low : goal.returns-in_err-add_low
returns-in_err-add_low g c =
    let p = err_from_is_err_and c.from_residual.result c.from_residual.ensures.1 in
    let lt : c.loop-input.input-index < length c.args.inputs.now = omega arith in
    rw (p.1, p.2)
    (lows_stop c.args.to c.args.inputs.now c.loop-input.input-index none lt c.args.self.now c.loop-input.self c.add_low.new.self
    c.loop-input.invariant c.in_err-add_low.field-0.0 c.in_err-add_low.ensures)

pub loop-input-preserved : goal.loop-input-preserved
loop-input-preserved g c =
    let lt : c.loop-input.input-index < length c.args.inputs.now = omega arith in
    lows_more c.args.to c.args.inputs.now c.loop-input.input-index none lt c.args.self.now c.loop-input.self c.add_low.new.self
    c.loop-input.invariant c.in_ok-add_low.ensures
