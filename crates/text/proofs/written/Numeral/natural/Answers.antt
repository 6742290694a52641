use Rattle.std.proofs.Common.{ap, ◌∙◌}
use Rattle.text.specs.Numerals.{numeral}
use Rattle.text.proofs.WrittenNumbers.{numeral_decimal}
use Rattle.text.proofs.written.Numeral.natural.Goals as goal

pub returns-clause-read : goal.returns-clause-read
returns-clause-read c = ap numeral c.of.ensures ∙ numeral_decimal c.args.n c.ranges.n.fits
