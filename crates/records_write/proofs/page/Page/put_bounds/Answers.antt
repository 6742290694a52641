use Rattle.std.proofs.Common.{sym, ℕ, List, subst}
use Rattle.std.specs.List.{AllByRecursion}
use Rattle.std.proofs.ByRecursion.{All-more, All-map}
use Rattle.std.proofs.lemmas.List.{take_all}
use Rattle.std.proofs.lemmas.List.Folds.{flat_map-map}
use Rattle.timing.specs.Bounds.{bound_of}
use Rattle.timing.specs.declared.bound.Bound.{Bound}
use Rattle.records_write.specs.Shown.{names_of}
use Rattle.records_write.specs.Writes.{limit_fields, line_of, ByteSized}
use Rattle.records_write.proofs.Puts.{puts_none, puts_same, pieces_more, pieces_all}
use Rattle.records_write.proofs.page.Page.put_bounds.Goals as goal

abbrev line : List (List ℕ) → Bound → List ℕ
line names bound = line_of (limit_fields names (bound_of bound))

pub loop-bound-init : goal.loop-bound-init
loop-bound-init c = (puts_none c.args.self.now, tt)

pub loop-bound-preserved : goal.loop-bound-preserved
loop-bound-preserved c = (
  pieces_more line c.args.bounds.now c.loop-bound.bound-index c.bound-item.result c.bound-item.result c.loop-bound-test.true c.bound-item.is
      c.loop-bound.invariant.0 c.put_bound.ensures.puts,
  All-more (λ (b : Bound). ByteSized (bound_of b)) c.args.bounds.now c.loop-bound.bound-index c.bound-item.result c.loop-bound-test.true c.loop-bound.invariant.1
      (subst (λ (b : Bound). ByteSized (bound_of b)) c.bound-item.is c.put_bound.ensures.bytes),
)

pub returns : goal.returns
returns c =
    let names = names_of c.args.self.now in
    let bounds = c.args.bounds.now in
    let all = take_all c.loop-bound.bound-index bounds c.loop-bound-test.false in
    record {
      puts = puts_same (sym (flat_map-map (λ b. line_of (limit_fields names b)) bound_of bounds))
          (pieces_all (line names) bounds c.loop-bound.bound-index c.loop-bound-test.false c.loop-bound.invariant.0);
      bytes = All-map ByteSized bound_of bounds (subst (AllByRecursion (λ b. ByteSized (bound_of b))) all c.loop-bound.invariant.1);
    }
