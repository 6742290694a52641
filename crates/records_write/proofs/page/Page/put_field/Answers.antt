use Rattle.std.proofs.Common.{[], ◌∷◌}
use Rattle.records_write.proofs.Puts.{puts_then}
use Rattle.records_write.proofs.page.Page.put_field.Goals as goal

pub returns : goal.returns
returns c = puts_then (9 ∷ []) c.args.field.now c.put.ensures c.put-2.ensures
