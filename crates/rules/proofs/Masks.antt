-- The set of the elements of a list that pass a test: how it grows, and law 1 over such sets.
use Rattle.std.proofs.Common.{◌≡◌, ℕ, ◌+◌, ◌-◌, ◌*◌, ◌%◌, ◌^◌, ◌<◌, Bool, true, false, cond, List, [], ◌∷◌, ◌++◌, map, length, get_or, take, refl, ap, ◌∙◌, subst, ap₂, mul_assoc, pow-suc, arith, length-take-le, pow_pos}
use lib.Bits.{bit_or, and_step, or_comm}
use Rattle.std.specs.List.{AllByRecursion}
use Rattle.std.proofs.lemmas.Nat.{or_shifted, one_shl}
use Rattle.std.proofs.lemmas.List.{take_more}
use Rattle.rules.specs.Laws.{Admits, Enough, Laws, Within}
use Rattle.rules.specs.Masks.{mask_by}

module _ {X : Type 0} where
  pub mask_lt : (p : X → Bool) (xs : List X) → mask_by p xs < 2 ^ length xs
  mask_lt p [] = omega arith
  mask_lt p (x ∷ xs) =
      let ih = mask_lt p xs in
      let twice = pow-suc 2 (length xs) in
      grind arith

  -- one more element takes the next bit
  pub mask_push : (p : X → Bool) (xs : List X) (x : X) → mask_by p (xs ++ (x ∷ [])) ≡ mask_by p xs + cond (p x) 1 0 * 2 ^ length xs
  mask_push p [] x = grind arith
  mask_push p (y ∷ xs) x =
      let ih = mask_push p xs x in
      let e = pow-suc 2 (length xs) in
      let d = mul_assoc (cond (p x) 1 0) (2 ^ length xs) 2 in
      ap (λ (m : ℕ). cond (p y) 1 0 + 2 * m) ih ∙ rw (e, ← d) (omega arith)

  -- the element at i joins the set of those before it by `set |= 1 << i`,
  pub mask_more : (p : X → Bool) (xs : List X) (i : ℕ) (d : X) (set : ℕ) → i < length xs → i < 8 → set ≡ mask_by p (take i xs)
      → p (get_or xs i d) ≡ true → bit_or set ((1 * 2 ^ i) % 256) ≡ mask_by p (take (i + 1) xs)
  mask_more p xs i d set h small e t =
      let long : length (take i xs) ≡ i = length-take-le i xs (omega arith) in
      let low : set < 2 ^ i = rw e (subst (λ (n : ℕ). mask_by p (take i xs) < 2 ^ n) long (mask_lt p (take i xs))) in
      let joined : bit_or set ((1 * 2 ^ i) % 256) ≡ 1 * 2 ^ i + set =
      ap (bit_or set) (one_shl i 8 small) ∙ or_comm set (2 ^ i) ∙ ap (λ (m : ℕ). bit_or m set) (omega arith) ∙ or_shifted 1 i set low in
      let pushed = mask_push p (take i xs) (get_or xs i d) in
      let same = ap (mask_by p) (take_more xs i d h) in
      let one : cond (p (get_or xs i d)) 1 0 * 2 ^ length (take i xs) ≡ 1 * 2 ^ i = rw (t, long) in
      omega arith

  -- and one that fails the test leaves it
  pub mask_less : (p : X → Bool) (xs : List X) (i : ℕ) (d : X) (set : ℕ) → i < length xs → set ≡ mask_by p (take i xs)
      → p (get_or xs i d) ≡ false → set ≡ mask_by p (take (i + 1) xs)
  mask_less p xs i d set h e t =
      let pushed = mask_push p (take i xs) (get_or xs i d) in
      let same = ap (mask_by p) (take_more xs i d h) in
      let none : cond (p (get_or xs i d)) 1 0 * 2 ^ length (take i xs) ≡ 0 * 2 ^ length (take i xs) = rw t in
      omega arith

  pub mask_same : (p q : X → Bool) (xs : List X) → AllByRecursion (λ x. p x ≡ q x) xs → mask_by p xs ≡ mask_by q xs
  mask_same p q [] a = refl
  mask_same p q (x ∷ xs) a = ap₂ (λ (b : Bool) (m : ℕ). cond b 1 0 + 2 * m) a.0 (mask_same p q xs a.1)

  pub mask_none : (p : X → Bool) (xs : List X) → AllByRecursion (λ x. p x ≡ false) xs → mask_by p xs ≡ 0
  mask_none p [] a = refl
  mask_none p (x ∷ xs) a = ap₂ (λ (b : Bool) (m : ℕ). cond b 1 0 + 2 * m) a.0 (mask_none p xs a.1)

  pub mask_full : (p : X → Bool) (xs : List X) → AllByRecursion (λ x. p x ≡ true) xs → mask_by p xs ≡ 2 ^ length xs - 1
  mask_full p [] a = refl
  mask_full p (x ∷ xs) a =
      ap₂ (λ (b : Bool) (m : ℕ). cond b 1 0 + 2 * m) a.0 (mask_full p xs a.1)
      ∙ omega (arith, pow-suc 2 (length xs), pow_pos (length xs))

  -- where each element that passes p passes q too, the first set is a subset of the second
  pub mask_within : (p q : X → Bool) (xs : List X) → AllByRecursion (λ x. p x ≡ true → q x ≡ true) xs → Within (mask_by p xs) (mask_by q xs)
  mask_within p q [] a = refl
  mask_within p q (x ∷ xs) a =
      let m = mask_by p xs in
      let n = mask_by q xs in
      let ih = mask_within p q xs a.1 in
      let step = and_step (cond (p x) 1 0 + 2 * m) (cond (q x) 1 0 + 2 * n) in
      let some = a.0 in
      grind arith

pub mask_map : {X Y : Type 0} (p : Y → Bool) (f : X → Y) (xs : List X) → mask_by p (map f xs) ≡ mask_by (λ x. p (f x)) xs
mask_map p f [] = refl
mask_map p f (x ∷ xs) = ap (λ (m : ℕ). cond (p (f x)) 1 0 + 2 * m) (mask_map p f xs)

-- law 1 over tests: where each term that passes p passes q too, and the first are enough, so are the second
pub enough_more : {X : Type 0} {admits : Admits} {enough : Enough} (laws : Laws admits enough) (kind k : ℕ) (p q : X → Bool) (xs : List X)
    → AllByRecursion (λ x. p x ≡ true → q x ≡ true) xs → enough kind k (length xs) (mask_by p xs) ≡ true → enough kind k (length xs) (mask_by q xs) ≡ true
enough_more laws kind k p q xs each e =
    laws.grows kind k (length xs) (mask_by p xs) (mask_by q xs) (mask_lt q xs) (mask_within p q xs each) e
