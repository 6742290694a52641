-- A rule set, given by the kinds that it adds to kind 0. The rest is common to all that are made so:
-- one to eight terms, no bit at or past the count, and kind 0 with K 0, for which any term is enough.
use Rattle.std.specs.Prelude.{◌≡◌, ℕ, ◌≤◌, Bool, true, false, cond, ◌&&◌, ◌==◌, nat_le}
use Rattle.rules.specs.Laws.{Admits, Enough, Within}
use Rattle.rules.specs.Masks.{is_set, all_terms, some_in}

abbrev pub admits_with : Admits → Admits
admits_with added kind k n = (nat_le 1 n && nat_le n 8) && cond (kind == 0) (k == 0) (added kind k n)

abbrev pub enough_with : Admits → Enough → Enough
enough_with added holds kind k n set =
    admits_with added kind k n && (is_set n set && cond (kind == 0) (some_in set) (holds kind k n set))

-- a test that a set which passes hands on to every superset
abbrev pub Growing : (ℕ → Bool) → Type 0
Growing test = (a b : ℕ) → Within a b → test a ≡ true → test b ≡ true

-- What the added kinds owe, for one to eight terms, where they are admitted; with this the whole keeps every law.
pub record Adds (added : Admits) (holds : Enough) : Type 0 where
  pub grows : (kind k n : ℕ) → 1 ≤ n → n ≤ 8 → added kind k n ≡ true → Growing (holds kind k n)
  pub empty : (kind k n : ℕ) → 1 ≤ n → n ≤ 8 → added kind k n ≡ true → holds kind k n 0 ≡ false
  pub full : (kind k n : ℕ) → 1 ≤ n → n ≤ 8 → added kind k n ≡ true → holds kind k n (all_terms n) ≡ true
