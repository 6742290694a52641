use Rattle.text.proofs.Splits.{parted_some}
use Rattle.records.proofs.reader.LineReader.read.Goals as goal

pub field-requires : goal.field-requires
field-requires g c = parted_some 9 c.args.self.now.line.bytes.now
