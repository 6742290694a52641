use Rattle.std.proofs.Common.{◌≡◌, ap, ◌∙◌}
use Rattle.std.specs.Fmt.{signed_decimal}
use Rattle.std.proofs.lemmas.Int.{to_z-of_z}
use Rattle.text.specs.Numerals.{numeral}
use Rattle.text.specs.Spelled.{digits_of}
use Rattle.text.proofs.WrittenNumbers.{numeral_signed}
use Rattle.text.proofs.written.Numeral.signed.Goals as goal

pub returns-clause-read : goal.returns-clause-read
returns-clause-read c =
    let fits = c.ranges.value in
    let is : digits_of c.of.result ≡ signed_decimal c.args.value = simp to_z-of_z at c.of.ensures in
    ap numeral is ∙ numeral_signed c.args.value fits.sfits
