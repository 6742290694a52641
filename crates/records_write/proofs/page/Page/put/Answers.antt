use Rattle.std.proofs.Common.{refl}
use Rattle.records_write.proofs.Puts.{fitting_put}
use Rattle.records_write.proofs.page.Page.put.Goals as goal

pub returns : goal.returns
returns c = record {
  bytes = fitting_put c.args.self.now.bytes.items c.args.text.now _ c.args.self.now.fits (rw c.write.ensures.count at c.write.ensures.bytes);
  names = refl;
}
