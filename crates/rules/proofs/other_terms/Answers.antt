-- A byte has no terms past the eighth.
use Rattle.std.proofs.Common.{◌<◌, sym, rules}
use native.Mathlib.Nat.{div-eq_of_lt}
use Rattle.rules.specs.Parts.{byte_below}
use Rattle.rules.proofs.other_terms.Goals as goal

pub returns-else-k-lt8 : goal.returns-else-k-lt8
returns-else-k-lt8 c =
    let byte : c.args.set < 256 = search rules in
    sym (div-eq_of_lt (byte_below c.args.k c.args.set c.if-k-lt8.false byte))
