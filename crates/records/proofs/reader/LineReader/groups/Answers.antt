use Rattle.std.proofs.Common.{ℕ, ◌+◌, ◌*◌, sym, ap, ◌∙◌, arith, rules}
use Rattle.std.proofs.lemmas.Result.{err_from_is_err_and}
use Rattle.records.specs.Readers.{names_for, fields_in}
use Rattle.records.proofs.Groups.{Left, group_more, group_stop}
use Rattle.records.proofs.reader.LineReader.groups.Goals as goal

pub returns-in_err-read-clause-said : goal.returns-in_err-read-clause-said
returns-in_err-read-clause-said g c =
    let at = g.G.Group.said_at (names_for c.args.self.now) c.args.self.now.line.number (fields_in c.args.self.now) in
    let p = err_from_is_err_and c.from_residual.result c.from_residual.ensures.1 in
    rw (p.1, p.2)
    (c.loop-i.invariant.0
    ∙ group_stop at g.G.Group.WIDTH c.args.count c.args.first c.loop-i.i c.loop-i.said.items _ (omega arith)
    (ap (λ (w : ℕ). at (c.args.first + w * c.loop-i.i)) (sym c.WIDTH.ensures) ∙ sym c.in_err-read.ensures))

pub loop-i-preserved : goal.loop-i-preserved
loop-i-preserved g c =
    let at = g.G.Group.said_at (names_for c.args.self.now) c.args.self.now.line.number (fields_in c.args.self.now) in (
      c.loop-i.invariant.0
          ∙ group_more at g.G.Group.WIDTH c.args.count c.args.first c.loop-i.i c.loop-i.said.items _ (omega arith)
          (ap (λ (w : ℕ). at (c.args.first + w * c.loop-i.i)) (sym c.WIDTH.ensures) ∙ sym c.in_ok-read.ensures)
          ∙ ap (Left at g.G.Group.WIDTH c.args.count c.args.first (c.loop-i.i + 1)) (sym c.push.ensures.items),
      search rules,
    )
