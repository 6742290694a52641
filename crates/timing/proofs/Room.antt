-- What falls with each step of the rise: the room between two timetables.
use Rattle.std.proofs.Common.{ℕ, zero, suc, ◌<◌, ◌≤◌, ◌⊎◌, ℤ, pos, negsuc, ◌+ℤ◌, neg_ℤ, ◌≤ℤ◌, ◌<ℤ◌, arith}
use Rattle.std.proofs.lemmas.Int.{ints}
use Rattle.timing.specs.Timetables.{Timetable}
use Rattle.timing.specs.Rise.{over, room}
use Rattle.timing.proofs.Pigeonhole.{below_suc}

over_le : (a b : ℤ) → a ≤ℤ b → over a ≤ over b
over_le (pos a) (pos b) h = omega (arith, ints)
over_le (pos a) (negsuc b) h = absurd (omega (arith, ints))
over_le (negsuc a) b h = omega arith

over_lt : (a b : ℤ) → a <ℤ b → pos 0 ≤ℤ a → over a < over b
over_lt (pos a) (pos b) h k = omega (arith, ints)
over_lt (pos a) (negsuc b) h k = absurd (omega (arith, ints))
over_lt (negsuc a) b h k = absurd (omega (arith, ints))

-- from x and y to x' and y', which lie no further apart
module _ (x y x' y' : Timetable) where
  one_le : (n : ℕ) → (x n ≤ℤ x' n) × (y' n ≤ℤ y n) → over (y' n +ℤ neg_ℤ (x' n)) ≤ over (y n +ℤ neg_ℤ (x n))
  one_le n h = over_le (y' n +ℤ neg_ℤ (x' n)) (y n +ℤ neg_ℤ (x n)) (omega (arith, ints))

  pub room_le : (n : ℕ) → ((e : ℕ) → e < n → (x e ≤ℤ x' e) × (y' e ≤ℤ y e)) → room x' y' n ≤ room x y n
  unfolding room
  room_le zero h = omega arith
  room_le (suc n) h = omega (arith, room_le n (λ e l. h e (omega arith)), one_le n (h n (omega arith)))

  pub room_lt : (n : ℕ) → ((e : ℕ) → e < n → (x e ≤ℤ x' e) × (y' e ≤ℤ y e)) → (e : ℕ) → e < n → x' e ≤ℤ y' e → (x e <ℤ x' e) ⊎ (y' e <ℤ y e)
      → room x' y' n < room x y n
  unfolding room
  room_lt zero h = λ e l a b. absurd (omega arith)
  room_lt (suc n) h =
      below_suc (λ e. x' e ≤ℤ y' e → (x e <ℤ x' e) ⊎ (y' e <ℤ y e) → room x' y' (suc n) < room x y (suc n)) n
      (λ e l a b. omega (arith, room_lt n (λ f g. h f (omega arith)) e l a b, one_le n (h n (omega arith))))
      (λ a b. omega (arith, room_le n (λ f g. h f (omega arith)), over_lt (y' n +ℤ neg_ℤ (x' n)) (y n +ℤ neg_ℤ (x n)) (omega (arith, ints, h n (omega arith))) (omega (arith, ints))))
