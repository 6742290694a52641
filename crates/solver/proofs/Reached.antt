-- The latest time that an admitted rule permits is the latest sum that it permits.
use Rattle.std.proofs.Common.{◌≡◌, ℕ, suc, ◌<◌, true, false, ◌⊎◌, List, [], ◌∷◌, length, get_or, ℤ, pos, ◌+ℤ◌, ◌≤ℤ◌, sym, ap, ◌∙◌, inl, inr, arith}
use lib.Signed.{le_z}
use Rattle.std.specs.List.{AllByRecursion}
use Rattle.std.proofs.ByRecursion.{All-from_get_or, All-weaker}
use Rattle.std.proofs.lemmas.Int.{ints}
use Rattle.std.proofs.lemmas.Bool.{cases_Bool, both_ways}
use Rattle.rules.specs.Laws.{Admits, Enough, Laws}
use Rattle.rules.proofs.Masks.{mask_none, mask_same, mask_full}
use Rattle.solver.specs.Permitted.{reaching}

-- of the sums not before v, the least is reached by the same terms; or there is none
abbrev Lowest : ℤ → List ℤ → Type 0
Lowest v xs = AllByRecursion (λ s. le_z v s ≡ false) xs
    ⊎ ((k : ℕ) × (k < length xs) × (le_z v (get_or xs k (pos 0)) ≡ true) × AllByRecursion (λ s. le_z v s ≡ le_z (get_or xs k (pos 0)) s) xs)

-- orders of three times
itself : (x : ℤ) → le_z x x ≡ true
itself x = grind (arith, ints)

beyond : (v x s : ℤ) → le_z v x ≡ true → le_z v s ≡ false → le_z v s ≡ le_z x s
beyond v x s p q = grind (arith, ints)

other : (x m : ℤ) → le_z x m ≡ false → le_z m x ≡ true
other x m p = grind (arith, ints)

under : (v m x : ℤ) → le_z v m ≡ true → le_z v x ≡ false → le_z m x ≡ false
under v m x p q = grind (arith, ints)

lower : (v x m s : ℤ) → le_z v x ≡ true → le_z x m ≡ true → le_z v s ≡ le_z m s → le_z v s ≡ le_z x s
lower v x m s p q e = grind (arith, ints)

lowest : (v : ℤ) (xs : List ℤ) → Lowest v xs
lowest v [] = inl tt
lowest v (x ∷ xs) =
    elim (cases_Bool (le_z v x)) [
      | inl is ↦ elim (lowest v xs) [
        | inl none ↦ first is (All-weaker _ _ (λ s. beyond v x s is) xs none)
        | inr t ↦ elim (cases_Bool (le_z x (get_or xs t.0 (pos 0)))) [
          | inl le ↦ first is (All-weaker _ _ (λ s. lower v x (get_or xs t.0 (pos 0)) s is le) xs t.3)
          | inr gt ↦ inr (suc t.0, omega (arith, t.1), t.2, (is ∙ sym (other x (get_or xs t.0 (pos 0)) gt), t.3))
        ]
      ]
      | inr out ↦ elim (lowest v xs) [
        | inl none ↦ inl (out, none)
        | inr t ↦ inr (suc t.0, omega (arith, t.1), t.2, (out ∙ sym (under v (get_or xs t.0 (pos 0)) x t.2 out), t.3))
      ]
    ]
  where
    first : le_z v x ≡ true → AllByRecursion (λ s. le_z v s ≡ le_z x s) xs → Lowest v (x ∷ xs)
    first is rest = inr (0, omega arith, is, (is ∙ sym (itself x), rest))

not-before : (r s : ℤ) → r ≤ℤ s → le_z r s ≡ true
not-before r s h = grind (arith, ints)

not_after : (r s : ℤ) → le_z (r +ℤ pos 1) s ≡ true → s ≤ℤ r → ⊥
not_after r s p q = grind (arith, ints)

module _ {A : Admits} {E : Enough} (laws : Laws A E) (kind k : ℕ) (xs : List ℤ) where
  -- a time that is after no sum is permitted
  pub least_permitted : A kind k (length xs) ≡ true → (r : ℤ) → ((j : ℕ) → j < length xs → r ≤ℤ get_or xs j (pos 0))
      → E kind k (length xs) (reaching r xs) ≡ true
  least_permitted ok r low =
      ap (E kind k (length xs)) (mask_full (le_z r) xs (All-from_get_or (λ s. le_z r s ≡ true) xs (pos 0) (λ j h. not-before r (get_or xs j (pos 0)) (low j h))))
      ∙ laws.full kind k (length xs) ok

  -- where no sum after r is permitted, no time after r is
  pub none_after : (r : ℤ)
      → ((j : ℕ) → j < length xs → E kind k (length xs) (reaching (get_or xs j (pos 0)) xs) ≡ true → get_or xs j (pos 0) ≤ℤ r)
      → E kind k (length xs) (reaching (r +ℤ pos 1) xs) ≡ false
  none_after r most =
      elim (cases_Bool (E kind k (length xs) (reaching (r +ℤ pos 1) xs))) [
        | inr out ↦ out
        | inl is ↦ elim (lowest (r +ℤ pos 1) xs) [
          | inl none ↦ absurd (both_ways _ (laws.empty kind k (length xs)) (sym (ap (E kind k (length xs)) (mask_none (le_z (r +ℤ pos 1)) xs none)) ∙ is))
          | inr t ↦ absurd (not_after r (get_or xs t.0 (pos 0)) t.2
              (most t.0 t.1 (sym (ap (E kind k (length xs)) (mask_same (le_z (r +ℤ pos 1)) (le_z (get_or xs t.0 (pos 0))) xs t.3)) ∙ is)))
        ]
      ]

  -- a rule that permits a time is admitted
  pub permitted_admitted : (set : ℕ) → E kind k (length xs) set ≡ true → A kind k (length xs) ≡ true
  permitted_admitted set is =
      elim (cases_Bool (A kind k (length xs))) [
        | inl ok ↦ ok
        | inr out ↦ absurd (both_ways _ (laws.refused kind k (length xs) set out) is)
      ]
