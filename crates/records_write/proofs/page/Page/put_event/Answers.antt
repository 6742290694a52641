use Rattle.std.proofs.Common.{[], ◌∷◌, ◌++◌, codes}
use Rattle.text.specs.Spelled.{spelled}
use Rattle.records_write.proofs.Puts.{puts_then, puts_field}
use Rattle.records_write.proofs.page.Page.put_event.Goals as goal

pub returns : goal.returns
returns c =
    let name = 9 ∷ spelled c.args.name.now in
    puts_then (codes "event") (name ++ (10 ∷ [])) c.put.ensures (puts_then name (10 ∷ []) (puts_field c.as_bytes.ensures c.put_field.ensures) c.put-2.ensures)
