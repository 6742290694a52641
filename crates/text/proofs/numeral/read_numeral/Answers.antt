use Rattle.std.proofs.Common.{◌≡◌, Some, sym, ◌∙◌, w64, SFits, rules}
use Rattle.std.proofs.lemmas.Int.{to_z-of_z}
use Rattle.text.specs.Numerals.{numeral, ranged}
use Rattle.text.proofs.Numerals.{ranged-none, ranged_some}
use Rattle.text.proofs.WrittenNumbers.{just_written}
use Rattle.text.proofs.numeral.read_numeral.Goals as goal

pub returns-in_err-value-clause-exact : goal.returns-in_err-value-clause-exact
returns-in_err-value-clause-exact c =
    just_written _ _ c.args.written.now c.from_residual.result c.ranges.least c.ranges.most (search (rules, ranged-none))

pub returns : goal.returns
returns c =
    let w = c.args.written.now in
    let small : SFits w64 c.in_ok-value.value = search rules in
    let some : c.numeral_value.result ≡ Some c.in_ok-value.value = search rules in
    let within : c.within.result ≡ ranged c.args.least c.args.most (Some c.in_ok-value.value) = search (rules, to_z-of_z) in
    let is = within ∙ ranged_some _ _ _ (numeral w) c.ranges.least c.ranges.most (sym some ∙ c.numeral_value.ensures) in
    record { value = is; exact = just_written _ _ w _ c.ranges.least c.ranges.most is }
