use Rattle.text.proofs.Lossless.{lines_make}
use Rattle.text.proofs.reader.Reader.new.Goals as goal

pub returns-clause-lossless : goal.returns-clause-lossless
returns-clause-lossless c = lines_make c.args.text.now
