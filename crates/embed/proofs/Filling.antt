-- Slots that are filled, each with its value.
use Rattle.std.proofs.Common.{◌≡◌, ℕ, ◌<◌, List, ◌++◌, map, length, drop, ap, ◌∙◌, arith}
use Rattle.std.specs.List.{range_with_len, HoldsAt}
use Rattle.std.specs.Prelude.{EachIndex}
use Rattle.std.proofs.lemmas.List.FromFn.{length-map-range_with_len, get_or-map-range_with_len, fill_by_all}
use Rattle.embed.specs.Settling.{filled}

module _ {X : Type 0} (f : ℕ → X) (xs : List X) where
  -- the first n slots, each with its value, and then those after them
  pub filled_by : (n : ℕ) (front : List X) → length front ≡ n → EachIndex front (λ k. HoldsAt (λ (x : X). x ≡ f k) front k) → front ++ drop n xs ≡ filled f n xs
  filled_by n front long each =
      ap (λ (ys : List X). ys ++ drop n xs) (fill_by_all f front n (f 0) long (λ k lt. each k (omega arith) (f 0)))

  -- only the first n values count
  pub filled_same : (g : ℕ → X) (n : ℕ) → ((k : ℕ) → k < n → f k ≡ g k) → filled f n xs ≡ filled g n xs
  filled_same g n same =
      ap (λ (ys : List X). ys ++ drop n xs)
      (fill_by_all g (map f (range_with_len 0 n)) n (f 0) (length-map-range_with_len f 0 n)
      (λ k lt. get_or-map-range_with_len f 0 n k k (f 0) lt (omega arith) ∙ same k lt))
