-- Sets of terms as masks, and the words for their parts.
use Rattle.std.specs.Prelude.{ℕ, ◌+◌, ◌-◌, ◌*◌, ◌/◌, ◌^◌, Bool, cond, List, [], ◌∷◌, ◌==◌, bit_and, nat_lt}

-- the set of the elements of a list that pass a test, the first one lowest
abbrev pub mask_by : {X : Type 0} → (X → Bool) → List X → ℕ
mask_by p [] = 0
mask_by p (x ∷ xs) = cond (p x) 1 0 + 2 * mask_by p xs

-- all n terms
abbrev pub all_terms : ℕ → ℕ
all_terms n = 2 ^ n - 1

-- the first k terms of a set, and the others, numbered from 0 again
abbrev pub first_terms : ℕ → ℕ → ℕ
first_terms k set = bit_and set (all_terms k)

abbrev pub other_terms : ℕ → ℕ → ℕ
other_terms k set = set / 2 ^ k

-- a mask is a set of n terms when it holds no others than the first n
abbrev pub is_set : ℕ → ℕ → Bool
is_set n set = (other_terms n set) == 0

-- a set holds a term (how many it holds is `ones`)
abbrev pub some_in : ℕ → Bool
some_in set = nat_lt 0 set
