-- The three sets of this crate keep the laws.
use Rattle.std.specs.Prelude.{◌-◌, ◌<◌, ◌≤◌, cond, ◌==◌, refl}
use Rattle.std.proofs.Common.{arith}
use Rattle.std.proofs.lemmas.Bool.Decides.{nat_tests}
use Rattle.rules.specs.Laws.{Laws}
use Rattle.rules.specs.Added.{Adds}
use Rattle.rules.specs.Sets.{plain_added, plain_holds, vote_added, vote_holds, group_added, group_holds, plain_admits, plain_enough, vote_admits, vote_enough, group_admits, group_enough}
use Rattle.rules.specs.Parts.{firsts_none, ones_none, firsts_all, others_all, ones-all, some_all, some_grows, count_grows, firsts_grows, others_grows, and_grows}
use Rattle.rules.specs.AddedLemmas.{laws_with}

pub plain_adds : Adds plain_added plain_holds
plain_adds = record {
  grows = λ kind k n one eight yes a b w e. e;
  empty = λ kind k n one eight yes. refl;
  full = λ kind k n one eight yes. yes;
}

pub vote_adds : Adds vote_added vote_holds
vote_adds = record {
  grows = λ kind k n one eight yes. count_grows (cond (kind == 1) n k);
  empty = λ kind k n one eight yes. let none = ones_none in grind (arith, nat_tests);
  full = λ kind k n one eight yes. let all = ones-all n in grind (arith, nat_tests);
}

pub group_adds : Adds group_added group_holds
group_adds = record {
  grows = λ kind k n one eight yes. and_grows (firsts_grows k some_grows) (others_grows k some_grows);
  empty = λ kind k n one eight yes. let none = firsts_none k in grind (arith, nat_tests);
  full = λ kind k n one eight yes.
      let some : 1 ≤ k = grind (arith, nat_tests) in
      let less : k < n = grind (arith, nat_tests) in
      rw (firsts_all k n (omega arith), others_all k n (omega arith), some_all k some, some_all (n - k) (omega arith));
}

pub plain_laws : Laws plain_admits plain_enough
plain_laws = laws_with plain_adds

pub vote_laws : Laws vote_admits vote_enough
vote_laws = laws_with vote_adds

pub group_laws : Laws group_admits group_enough
group_laws = laws_with group_adds
