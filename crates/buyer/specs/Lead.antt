-- What Lead adds to kind 0: kind 1 with K from 1 to n - 1.
-- A set is enough when it holds the first term, or at least K of the others.
use Rattle.std.specs.Prelude.{◌&&◌, ◌||◌, ◌==◌, count_ones, nat_le, nat_lt}
use Rattle.rules.specs.Laws.{Admits, Enough}
use Rattle.rules.specs.Masks.{first_terms, other_terms, some_in}

abbrev pub lead_added : Admits
lead_added kind k n = kind == 1 && (nat_le 1 k && nat_lt k n)

abbrev pub lead_holds : Enough
lead_holds kind k n set = some_in (first_terms 1 set) || nat_le k (count_ones (other_terms 1 set))
