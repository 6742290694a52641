-- The first k terms are those below bit k; of a byte, eight and more are all.
use Rattle.std.proofs.Common.{◌<◌, sym, ◌∙◌, mod-eq_of_lt, rules}
use lib.Bits.{and_mask}
use Rattle.rules.specs.Parts.{byte_below}
use Rattle.rules.proofs.first_terms.Goals as goal

pub returns-else-k-lt8 : goal.returns-else-k-lt8
returns-else-k-lt8 c =
    let byte : c.args.set < 256 = search rules in
    sym (and_mask c.args.set c.args.k ∙ mod-eq_of_lt (byte_below c.args.k c.args.set c.if-k-lt8.false byte))
