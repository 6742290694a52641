-- Lead keeps the laws: what its added kind owes.
use Rattle.std.proofs.Common.{arith}
use Rattle.std.proofs.lemmas.Bool.Decides.{nat_tests}
use Rattle.rules.specs.Added.{Adds}
use Rattle.rules.specs.Parts.{ones_none, firsts_all, some_grows, count_grows, firsts_grows, others_grows, or_grows}
use Rattle.buyer.specs.Lead.{lead_added, lead_holds}

pub lead_adds : Adds lead_added lead_holds
lead_adds = record {
  grows = λ kind k n one eight yes. or_grows (firsts_grows 1 some_grows) (others_grows 1 (count_grows k));
  empty = λ kind k n one eight yes. let none = ones_none in grind (arith, nat_tests);
  full = λ kind k n one eight yes. let all = firsts_all 1 n one in grind (arith, nat_tests);
}
