-- What a rule set says, and the laws that every rule set keeps.
-- A set of terms is a mask: bit i stands for term i, so that 2 ^ n - 1 is the set of all n terms.
use Rattle.std.specs.Prelude.{◌≡◌, ℕ, ◌-◌, ◌^◌, ◌<◌, ◌≤◌, Bool, true, false, bit_and}

-- of a kind, a K and a term count: is that admitted
abbrev pub Admits : Type 0
Admits = ℕ → ℕ → ℕ → Bool

-- of a kind, a K, a term count and a set of those terms: is it enough
abbrev pub Enough : Type 0
Enough = ℕ → ℕ → ℕ → ℕ → Bool

-- each term of a is one of b
abbrev pub Within : ℕ → ℕ → Type 0
Within a b = bit_and a b ≡ a

pub record Laws (admits : Admits) (enough : Enough) : Type 0 where
  -- 1. a superset of an enough set is enough
  pub grows : (kind k n a b : ℕ) → b < 2 ^ n → Within a b → enough kind k n a ≡ true → enough kind k n b ≡ true
  -- 2. the empty set is not
  pub empty : (kind k n : ℕ) → enough kind k n 0 ≡ false
  -- 3. the set of all terms is, where admitted
  pub full : (kind k n : ℕ) → admits kind k n ≡ true → enough kind k n (2 ^ n - 1) ≡ true
  -- 4. kind 0 with K 0 is admitted for one to eight terms, and every set but the empty one is enough;
  --    nothing is admitted with no terms or more than eight
  pub latest : (n : ℕ) → 1 ≤ n → n ≤ 8 → admits 0 0 n ≡ true
  pub any : (n a : ℕ) → 1 ≤ n → n ≤ 8 → 0 < a → a < 2 ^ n → enough 0 0 n a ≡ true
  pub sized : (kind k n : ℕ) → admits kind k n ≡ true → (1 ≤ n) × (n ≤ 8)
  -- what is not admitted is never enough, nor is a mask with a bit at or past the count
  pub refused : (kind k n a : ℕ) → admits kind k n ≡ false → enough kind k n a ≡ false
  pub outside : (kind k n a : ℕ) → 2 ^ n ≤ a → enough kind k n a ≡ false
