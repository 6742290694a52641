use Rattle.text.proofs.Lossless.{fields_make}
use Rattle.text.proofs.lines.Line.count.Goals as goal

pub returns-clause-lossless : goal.returns-clause-lossless
returns-clause-lossless c = fields_make c.args.self.bytes.now
