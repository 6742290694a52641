-- The latest time that a rule permits, from the sums of a bound's terms.
use Rattle.std.specs.Prelude.{◌≡◌, ℕ, true, false, List, length, ℤ, pos, ◌+ℤ◌, int_le}
use Rattle.rules.specs.Laws.{Enough}
use Rattle.rules.specs.Masks.{mask_by}

-- the terms whose sum is not before a time
abbrev pub reaching : ℤ → List ℤ → ℕ
reaching v sums = mask_by (int_le v) sums

-- v is that time: the terms whose sum is not before it are enough, and one tick later they are not
pub record LatestTime (E : Enough) (kind k : ℕ) (sums : List ℤ) (v : ℤ) : Type 0 where
  pub permitted : E kind k (length sums) (reaching v sums) ≡ true
  pub last : E kind k (length sums) (reaching (v +ℤ pos 1) sums) ≡ false
