-- A rule set that adds kinds to kind 0 keeps every law, where the added kinds keep what they owe.
use Rattle.std.specs.Prelude.{◌≡◌, ◌≤◌, true}
use Rattle.std.proofs.Common.{arith}
use Rattle.std.proofs.Math.Pow.{ones_lt}
use Rattle.std.proofs.lemmas.Bool.Decides.{nat_tests}
use Rattle.rules.specs.Laws.{Admits, Enough, Laws}
use Rattle.rules.specs.Masks.{all_terms}
use Rattle.rules.specs.Added.{admits_with, enough_with, Adds}
use Rattle.rules.specs.Parts.{set_below, some_grows, some_all}

pub laws_with : {added : Admits} {holds : Enough} → Adds added holds → Laws (admits_with added) (enough_with added holds)
laws_with {added = added} {holds = holds} adds = record {
  grows = λ kind k n a b h w e.
      let one : 1 ≤ n = grind (arith, nat_tests) in
      let eight : n ≤ 8 = grind (arith, nat_tests) in
      let set = set_below n b in
      let any = some_grows a b w in
      let more = λ (yes : added kind k n ≡ true). adds.grows kind k n one eight yes a b w in
      grind (arith, nat_tests);
  empty = λ kind k n. let none = adds.empty kind k n in grind (arith, nat_tests);
  full = λ kind k n e.
      let one : 1 ≤ n = grind (arith, nat_tests) in
      let eight : n ≤ 8 = grind (arith, nat_tests) in
      let any = some_all n one in
      let more = adds.full kind k n one eight in
      let set = set_below n (all_terms n) in
      let below = ones_lt n in
      grind (arith, nat_tests);
  latest = λ n p q. grind (arith, nat_tests);
  any = λ n a p q r s. let set = set_below n a in grind (arith, nat_tests);
  sized = λ kind k n e. grind (arith, nat_tests);
  refused = λ kind k n a e. grind (arith, nat_tests);
  outside = λ kind k n a h. let set = set_below n a in grind (arith, nat_tests);
}
