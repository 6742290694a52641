-- What holds of those of a list whose numbers pass a test.
use Rattle.std.proofs.Common.{◌≡◌, ℕ, zero, suc, ◌<◌, Bool, true, false, cond, List, [], ◌∷◌, length, get_or, refl, arith}
use Rattle.std.specs.List.{ContainsAt as Has, AllByRecursion}
use Rattle.std.proofs.ByRecursion.{all_has_itself}
use Rattle.std.proofs.lemmas.Bool.{both_ways}
use Rattle.timing.specs.Knots.{those}

module _ {X : Type 0} (P : X → Type 0) where
  one_out : (v : Bool) (x : X) (xs : List X) → AllByRecursion P (cond v (x ∷ xs) xs) → (v ≡ true → P x) × AllByRecursion P xs
  one_out true x xs h = (λ _. h.0, h.1)
  one_out false x xs h = (λ z. absurd (both_ways false refl z), h)

  one_in : (v : Bool) (x : X) (xs : List X) → (v ≡ true → P x) → AllByRecursion P xs → AllByRecursion P (cond v (x ∷ xs) xs)
  one_in true x xs h k = (h refl, k)
  one_in false x xs h k = k

  pub those_out : (chosen : ℕ → Bool) (xs : List X) (d : X) → AllByRecursion P (those chosen xs) → (i : ℕ) → i < length xs → chosen i ≡ true → P (get_or xs i d)
  those_out chosen [] d h i l = absurd (omega arith)
  those_out chosen (x ∷ xs) d h zero l = (one_out (chosen 0) x (those (λ j. chosen (suc j)) xs) h).0
  those_out chosen (x ∷ xs) d h (suc i) l =
      those_out (λ j. chosen (suc j)) xs d (one_out (chosen 0) x (those (λ j. chosen (suc j)) xs) h).1 i (omega arith)

  pub those_in : (chosen : ℕ → Bool) (xs : List X) (d : X) → ((i : ℕ) → i < length xs → chosen i ≡ true → P (get_or xs i d)) → AllByRecursion P (those chosen xs)
  those_in chosen [] d h = tt
  those_in chosen (x ∷ xs) d h =
      one_in (chosen 0) x (those (λ j. chosen (suc j)) xs) (h 0 (omega arith)) (those_in (λ j. chosen (suc j)) xs d (λ i l. h (suc i) (omega arith)))

  pub all-those : (chosen : ℕ → Bool) (xs : List X) → AllByRecursion P xs → AllByRecursion P (those chosen xs)
  all-those chosen [] h = tt
  all-those chosen (x ∷ xs) h = one_in (chosen 0) x (those (λ j. chosen (suc j)) xs) (λ _. h.0) (all-those (λ j. chosen (suc j)) xs h.1)

-- one that is chosen is among those
pub those_has : {X : Type 0} (chosen : ℕ → Bool) (xs : List X) (d : X) (i : ℕ) → i < length xs → chosen i ≡ true → Has (those chosen xs) (get_or xs i d)
those_has chosen xs d i l c = those_out (Has (those chosen xs)) chosen xs d (all_has_itself (those chosen xs)) i l c
