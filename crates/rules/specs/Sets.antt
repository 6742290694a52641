-- What the three sets of this crate mean: the kinds that each adds to kind 0 ("latest"), for n terms.
use Rattle.std.specs.Prelude.{false, cond, ◌&&◌, ◌==◌, count_ones, nat_le, nat_lt}
use Rattle.rules.specs.Laws.{Admits, Enough}
use Rattle.rules.specs.Masks.{first_terms, other_terms, some_in}
use Rattle.rules.specs.Added.{admits_with, enough_with}

-- Plain adds none.
abbrev pub plain_added : Admits
plain_added kind k n = false

abbrev pub plain_holds : Enough
plain_holds kind k n set = false

abbrev pub plain_admits : Admits
plain_admits = admits_with plain_added

abbrev pub plain_enough : Enough
plain_enough = enough_with plain_added plain_holds

-- Vote adds kind 1 with K 0 ("every": all n terms are needed),
-- and kind 2 with K from 1 to n ("count": at least K terms).
abbrev pub vote_added : Admits
vote_added kind k n = cond (kind == 1) (k == 0) (kind == 2 && (nat_le 1 k && nat_le k n))

abbrev pub vote_holds : Enough
vote_holds kind k n set = nat_le (cond (kind == 1) n k) (count_ones set)

abbrev pub vote_admits : Admits
vote_admits = admits_with vote_added

abbrev pub vote_enough : Enough
vote_enough = enough_with vote_added vote_holds

-- Group adds kind 1 with K from 1 to 7 and more than K terms: one of the first K, and one of the others.
abbrev pub group_added : Admits
group_added kind k n = kind == 1 && (nat_le 1 k && (nat_le k 7 && nat_lt k n))

abbrev pub group_holds : Enough
group_holds kind k n set = some_in (first_terms k set) && some_in (other_terms k set)

abbrev pub group_admits : Admits
group_admits = admits_with group_added

abbrev pub group_enough : Enough
group_enough = enough_with group_added group_holds
