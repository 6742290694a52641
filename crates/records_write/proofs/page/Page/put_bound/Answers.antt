use Rattle.timing.specs.Bounds.{bound_of}
use Rattle.records_write.proofs.Puts.{limit_put}
use Rattle.records_write.proofs.page.Page.put_bound.Goals as goal

pub returns-clause-puts : goal.returns-clause-puts
returns-clause-puts c =
    limit_put (bound_of c.args.bound.now) c.put.ensures (rw c.kind.ensures at c.put_number.ensures) (rw c.k.ensures at c.put_number-2.ensures)
    (rw c.to.ensures at c.put_name.ensures) (rw c.terms.ensures.terms at c.put_terms.ensures) c.put-2.ensures
