use Rattle.std.proofs.Common.{◌≡◌, codes, arith, rules}
use Rattle.std.proofs.lemmas.Slice.Eq.{text_from_reads}
use Rattle.records.proofs.line.Word.new.Goals as goal

pub returns-in-linear : goal.returns-in-linear
returns-in-linear c =
    let e : c.args.bytes.now ≡ codes "linear" = text_from_reads _ _ (omega arith) (search rules) in
    rw e
