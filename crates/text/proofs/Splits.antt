use Rattle.std.proofs.Common.{◌≡◌, ℕ, ◌+◌, ◌<◌, ◌≤◌, true, false, cond, not, eqb, ltb, slice_get, Some, None, List, [], ◌∷◌, length, take, drop, refl, ap, ◌∙◌, add-one, one-add, arith}
use Rattle.std.proofs.lemmas.Bool.Decides.{nat_tests}
use Rattle.std.proofs.lemmas.Option.{cond_some, gets}
use Rattle.std.proofs.lemmas.List.Splits.{length-slice_split}
use Rattle.std.specs.List.{position}
use Rattle.text.specs.Split.{before, onto, ended_by, parted_by}

-- a text that is not empty is a line, and the lines of what follows it
pub ended_cut : (c x : ℕ) (xs : List ℕ) → ended_by c (x ∷ xs) ≡ take (before c (x ∷ xs)) (x ∷ xs) ∷ ended_by c (drop (before c (x ∷ xs) + 1) (x ∷ xs))
ended_cut c x [] =
    elim (eqb x c) as (λ b. cond b ([] ∷ ended_by c []) (onto x (ended_by c [])) ≡ take (cond (not b) (1 + before c []) 0) (x ∷ []) ∷ ended_by c (drop (cond (not b) (1 + before c []) 0 + 1) (x ∷ [])))
    [ true ↦ refl | false ↦ refl ]
ended_cut c x (y ∷ ys) =
    elim (eqb x c) as (λ b. cond b ([] ∷ ended_by c (y ∷ ys)) (onto x (ended_by c (y ∷ ys))) ≡ take (cond (not b) (1 + before c (y ∷ ys)) 0) (x ∷ y ∷ ys) ∷ ended_by c (drop (cond (not b) (1 + before c (y ∷ ys)) 0 + 1) (x ∷ y ∷ ys)))
    [ true ↦ refl | false ↦ ap (onto x) (ended_cut c y ys) ∙ simp (add-one, one-add) ]

-- where the first c stands
pub first_at : (c : ℕ) (xs : List ℕ) (n : ℕ) → position (λ x. eqb x c) xs ≡ Some n → before c xs ≡ n
first_at c xs n e = (cond_some (ltb (before c xs) (length xs)) (before c xs) n e).1

pub first_none : (c : ℕ) (xs : List ℕ) → position (λ x. eqb x c) xs ≡ None → length xs ≤ before c xs
first_none c xs e = grind (arith, nat_tests)

pub ended_some : (c : ℕ) (xs : List ℕ) → 0 < length xs → ended_by c xs ≡ take (before c xs) xs ∷ ended_by c (drop (before c xs + 1) xs)
ended_some c [] h = absurd (omega arith)
ended_some c (x ∷ xs) h = ended_cut c x xs

-- there is a part, and none past the last
pub parted_some : (c : ℕ) (xs : List ℕ) → 0 < length (parted_by c xs)
parted_some c xs = omega (arith, length-slice_split (λ x. eqb x c) xs)

pub no_part : (ps : List (List ℕ)) (k : ℕ) → slice_get ps k ≡ None → length ps ≤ k
no_part ps k e = grind (arith, gets)
