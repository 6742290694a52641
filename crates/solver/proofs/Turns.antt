-- Going round the numbers below n, from any first one.
use Rattle.std.proofs.Common.{◌≡◌, ℕ, ◌+◌, ◌<◌, ◌≤◌, ◌⊎◌, sym, subst, inl, inr, arith}
use Rattle.std.proofs.lemmas.Bool.{cases_eq, cases_lt}

-- the numbers met in the first `step` steps from `first`
abbrev pub Seen : ℕ → ℕ → ℕ → ℕ → Type 0
Seen n first step j = ((first ≤ j) × (j < first + step)) ⊎ (j + n < first + step)

pub seen_all : (n first step j : ℕ) → j < n → n ≤ step → Seen n first step j
seen_all n first step j h e =
    elim (cases_lt j first) [
      | inl lt ↦ inr (omega arith)
      | inr ge ↦ inl (ge, omega arith)
    ]

earlier : (n first step i j : ℕ) → i < n → j < n → (i ≡ first + step) ⊎ (i + n ≡ first + step) → (j ≡ i → ⊥) → Seen n first (step + 1) j → Seen n first step j
earlier n first step i j hi hj at ne (inl s) =
    elim (cases_lt j (first + step)) [
      | inl lt ↦ inl (s.0, lt)
      | inr ge ↦ absurd (let high = s.1 in elim at [ inl p ↦ ne (omega arith) | inr p ↦ omega arith ])
    ]
earlier n first step i j hi hj at ne (inr s) =
    elim (cases_lt (j + n) (first + step)) [
      | inl lt ↦ inr lt
      | inr ge ↦ absurd (elim at [ inl p ↦ omega arith | inr p ↦ ne (omega arith) ])
    ]

pub seen_more : (P : ℕ → Type 0) (n first step i : ℕ) → i < n → (i ≡ first + step) ⊎ (i + n ≡ first + step)
    → ((j : ℕ) → j < n → Seen n first step j → P j) → P i → (j : ℕ) → j < n → Seen n first (step + 1) j → P j
seen_more P n first step i hi at old new j hj s =
    elim (cases_eq j i) [
      | inl e ↦ subst P (sym e) new
      | inr ne ↦ old j hj (earlier n first step i j hi hj at ne s)
    ]
