-- The parts of a set of terms, at any width: the first k terms, the others, how many there are.
-- Of each: what it is for no terms, what it is for all, and that a test of it grows with the set.
use Rattle.std.specs.Prelude.{◌≡◌, ℕ, ◌+◌, ◌-◌, ◌/◌, ◌%◌, ◌^◌, ◌<◌, ◌≤◌, Bool, true, ◌&&◌, ◌||◌, bit_and, nat_le, nat_lt, refl}
use Rattle.std.proofs.Common.{sym, ap, ap₂, subst, ◌∙◌, ⊎_elim, zero-le, le_trans, le_of_eq, arith, pow_pos, pow_mono}
use Rattle.std.proofs.Math.Nat.{zero-div, div-eq_of_lt}
use Rattle.std.proofs.Math.Arith.{bin_ind}
use Rattle.std.specs.Int.Bits.{and_zero_l}
use Rattle.std.specs.Int.Count.{ones, ones_step, ones-ones}
use Rattle.std.proofs.Math.Pow.{ones_split, ones_lt, high, low}
use Rattle.std.proofs.lemmas.Nat.{le-div, and_le_r, and_mask, and_mod, and_shr}
use Rattle.std.proofs.lemmas.Bool.{cases_lt}
use Rattle.std.proofs.lemmas.Bool.Decides.{nat_tests}
use Rattle.rules.specs.Laws.{Within}
use Rattle.rules.specs.Masks.{is_set, all_terms, first_terms, other_terms, some_in}
use Rattle.rules.specs.Added.{Growing}

-- No terms have no parts.
pub firsts_none : (k : ℕ) → first_terms k 0 ≡ 0
firsts_none k = and_zero_l (all_terms k)

pub others_none : (k : ℕ) → other_terms k 0 ≡ 0
others_none k = zero-div (2 ^ k)

pub ones_none : ones 0 ≡ 0
unfolding ones
ones_none = refl

-- A mask is a set of n terms just when it is below 2 ^ n.
pub set_below : (n a : ℕ) → is_set n a ≡ nat_lt a (2 ^ n)
set_below n a =
    ⊎_elim
    (λ (below : a < 2 ^ n). let none = div-eq_of_lt below in grind (arith, nat_tests))
    (λ (past : 2 ^ n ≤ a). let some = le-div 1 a (2 ^ n) (pow_pos n) (omega arith) in grind (arith, nat_tests))
    (cases_lt a (2 ^ n))

-- a byte has no bit at or past the eighth
pub byte_below : (k a : ℕ) → 8 ≤ k → a < 256 → a < 2 ^ k
byte_below k a h small = omega (arith, pow_mono h)

-- Of all n terms the first k are all k, the others are all n - k, and there are n.
pub firsts_all : (k n : ℕ) → k ≤ n → first_terms k (all_terms n) ≡ all_terms k
firsts_all k n h =
    let whole : (n - k) + k ≡ n = omega arith in
    subst (λ (m : ℕ). first_terms k (all_terms m) ≡ all_terms k) whole
    (and_mask (all_terms (n - k + k)) k ∙ ap (λ (a : ℕ). a % 2 ^ k) (ones_split (n - k) k) ∙ low (all_terms (n - k)) k (ones_lt k))

pub others_all : (k n : ℕ) → k ≤ n → other_terms k (all_terms n) ≡ all_terms (n - k)
others_all k n h =
    let whole : (n - k) + k ≡ n = omega arith in
    subst (λ (m : ℕ). other_terms k (all_terms m) ≡ all_terms (n - k)) whole
    (ap (other_terms k) (ones_split (n - k) k) ∙ high (all_terms (n - k)) k (ones_lt k))

pub ones-all : (n : ℕ) → ones (all_terms n) ≡ n
ones-all n = ones-ones n

pub some_all : (n : ℕ) → 1 ≤ n → some_in (all_terms n) ≡ true
some_all n h = let more = pow_mono h in grind (arith, nat_tests)

-- A subset is no greater as a number, and its parts are subsets of the parts.
pub within_le : (a b : ℕ) → Within a b → a ≤ b
within_le a b w = le_trans (le_of_eq (sym w)) (and_le_r a b)

within_low : (k a b : ℕ) → Within a b → Within (a % 2 ^ k) (b % 2 ^ k)
within_low k a b w = sym (and_mod a b k) ∙ ap (λ (m : ℕ). m % 2 ^ k) w

pub within_firsts : (k a b : ℕ) → Within a b → Within (first_terms k a) (first_terms k b)
within_firsts k a b w = ap₂ bit_and (and_mask a k) (and_mask b k) ∙ within_low k a b w ∙ sym (and_mask a k)

pub within_others : (k a b : ℕ) → Within a b → Within (other_terms k a) (other_terms k b)
within_others k a b w = sym (and_shr a b k) ∙ ap (other_terms k) w

-- a subset has no more terms
pub within-ones : (a b : ℕ) → Within a b → ones a ≤ ones b
within-ones a =
    bin_ind (λ (a : ℕ). (b : ℕ) → Within a b → ones a ≤ ones b)
    (λ b w. le_trans (le_of_eq ones_none) zero-le)
    (λ a ih b w.
    let low : a % 2 ≤ b % 2 = within_le (a % 2) (b % 2) (within_low 1 a b w) in
    let rest = ih (b / 2) (within_others 1 a b w) in
    omega (arith, ones_step a, ones_step b)) a

-- Tests that grow with the set.
pub some_grows : Growing some_in
some_grows a b w e = let h = within_le a b w in grind (arith, nat_tests)

pub count_grows : (k : ℕ) → Growing (λ set. nat_le k (ones set))
count_grows k a b w e = let h = within-ones a b w in grind (arith, nat_tests)

pub firsts_grows : (k : ℕ) {test : ℕ → Bool} → Growing test → Growing (λ set. test (first_terms k set))
firsts_grows k g a b w = g (first_terms k a) (first_terms k b) (within_firsts k a b w)

pub others_grows : (k : ℕ) {test : ℕ → Bool} → Growing test → Growing (λ set. test (other_terms k set))
others_grows k g a b w = g (other_terms k a) (other_terms k b) (within_others k a b w)

pub and_grows : {p q : ℕ → Bool} → Growing p → Growing q → Growing (λ set. p set && q set)
and_grows f g a b w e =
    let one = f a b w in
    let other = g a b w in
    grind arith

pub or_grows : {p q : ℕ → Bool} → Growing p → Growing q → Growing (λ set. p set || q set)
or_grows f g a b w e =
    let one = f a b w in
    let other = g a b w in
    grind arith
