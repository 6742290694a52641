-- The terms of a bound met so far, by a loop that stops as soon as those that pass a test are enough.
use Rattle.std.proofs.Common.{◌≡◌, ℕ, zero, suc, ◌+◌, ◌*◌, ◌/◌, ◌%◌, ◌^◌, ◌<◌, ◌≤◌, min, Bool, true, false, cond, List, [], ◌∷◌, ◌++◌, map, length, get_or, take, set, ℤ, pos, ◌+ℤ◌, sym, refl, ap, ◌∙◌, subst, ap₂, arith}
use lib.Bits.{bit_and, bit_or, and_step, and_zero_l}
use lib.Signed.{le_z}
use Rattle.std.specs.List.{AllByRecursion}
use Rattle.std.proofs.ByRecursion.{All-get_or}
use Rattle.std.proofs.lemmas.List.{length-map, length-set, get_or-map, map-append, take_all, take_more, take_more_set}
use Rattle.std.proofs.lemmas.Bool.{both_ways}
use Rattle.rules.specs.Laws.{Admits, Enough, Laws, Within}
use Rattle.rules.specs.Masks.{mask_by}
use Rattle.rules.proofs.Masks.{mask_lt, mask_more, mask_less, mask_map}
use Rattle.timing.specs.declared.bound.Term.{Term}
use Rattle.timing.specs.Bounds.{term_of}
use Rattle.timing.specs.Model.{TermModel, BoundModel}
use Rattle.timing.specs.Timetables.{Suffice}
use Rattle.solver.specs.Permitted.{LatestTime}
use Rattle.solver.proofs.Reached.{permitted_admitted}

-- the bound with these terms of the program
abbrev pub bound_with : ℕ → ℕ → ℕ → List Term → BoundModel
bound_with to kind k ts = record { to = to; kind = kind; k = k; terms = map term_of ts }

-- what stands where a number names no term
abbrev pub no_term : Term
no_term = record { from = 0; delay = pos 0 }

-- a mask, digit by digit
half_is : (b : Bool) (m : ℕ) → (cond b 1 0 + 2 * m) / 2 ≡ m
half_is true m = omega arith
half_is false m = omega arith

odd_same : (b : Bool) (m n : ℕ) → min ((cond b 1 0 + 2 * m) % 2) ((cond b 1 0 + 2 * n) % 2) ≡ cond b 1 0
odd_same true m n = omega arith
odd_same false m n = omega arith

-- the first terms that pass are among all that pass
mask_take : {X : Type 0} (p : X → Bool) (n : ℕ) (xs : List X) → Within (mask_by p (take n xs)) (mask_by p xs)
mask_take p zero xs = and_zero_l (mask_by p xs)
mask_take p (suc n) [] = refl
mask_take p (suc n) (x ∷ xs) =
    let m = mask_by p (take n xs) in
    let o = mask_by p xs in
    and_step (cond (p x) 1 0 + 2 * m) (cond (p x) 1 0 + 2 * o)
    ∙ ap₂ (λ (i j : ℕ). bit_and i j * 2 + min ((cond (p x) 1 0 + 2 * m) % 2) ((cond (p x) 1 0 + 2 * o) % 2)) (half_is (p x) m) (half_is (p x) o)
    ∙ ap₂ (λ (i j : ℕ). i * 2 + j) (mask_take p n xs) (odd_same (p x) m o)
    ∙ omega arith

-- of the first j terms those in `set` pass the test, and they are not enough
pub record Tally (E : Enough) (kind k : ℕ) (ts : List Term) (p : TermModel → Bool) (j set : ℕ) : Type 0 where
  pub mask : set ≡ mask_by (λ t. p (term_of t)) (take j ts)
  pub short : E kind k (length ts) set ≡ false

-- the sums of the first j terms are formed
pub record Formed (f : TermModel → ℤ) (ts : List Term) (j : ℕ) (sums : List ℤ) : Type 0 where
  pub long : length sums ≡ 8
  pub are : take j sums ≡ map (λ t. f (term_of t)) (take j ts)

suffice_is : (E : Enough) (to kind k : ℕ) (ts : List Term) (p : TermModel → Bool) (v : Bool)
    → E kind k (length ts) (mask_by (λ t. p (term_of t)) ts) ≡ v → E kind k (length (map term_of ts)) (mask_by p (map term_of ts)) ≡ v
suffice_is E to kind k ts p v e = ap₂ (λ (n a : ℕ). E kind k n a) (length-map ts term_of) (mask_map p term_of ts) ∙ e

module _ {A : Admits} {E : Enough} (laws : Laws A E) (to kind k : ℕ) (ts : List Term) (p : TermModel → Bool) where
  pub tally_start : Tally E kind k ts p 0 0
  tally_start = record { mask = omega arith; short = laws.empty kind k (length ts) }

  module _ (j set : ℕ) (d : Term) (few : length ts ≤ 8) (r : Tally E kind k ts p j set) (h : j < length ts) where
    -- a term that fails
    pub tally-less : p (term_of (get_or ts j d)) ≡ false → Tally E kind k ts p (j + 1) set
    tally-less out = record { mask = mask_less (λ t. p (term_of t)) ts j d set h r.mask out; short = r.short }

    module _ (in' : p (term_of (get_or ts j d)) ≡ true) where
      joined : bit_or set ((1 * 2 ^ j) % 256) ≡ mask_by (λ t. p (term_of t)) (take (j + 1) ts)
      joined = mask_more (λ t. p (term_of t)) ts j d set h (omega arith) r.mask in'

      -- a term that passes, and they are still not enough
      pub tally-more : E kind k (length ts) (bit_or set ((1 * 2 ^ j) % 256)) ≡ false → Tally E kind k ts p (j + 1) (bit_or set ((1 * 2 ^ j) % 256))
      tally-more short = record { mask = joined; short = short }

      -- a term that passes, and now they are enough: so are all that pass
      pub tally-enough : E kind k (length ts) (bit_or set ((1 * 2 ^ j) % 256)) ≡ true → Suffice E (bound_with to kind k ts) p
      tally-enough enough =
          suffice_is E to kind k ts p true
          (laws.grows kind k (length ts) _ _ (mask_lt (λ t. p (term_of t)) ts) (mask_take (λ t. p (term_of t)) (j + 1) ts)
          (sym (ap (E kind k (length ts)) joined) ∙ enough))

  -- no term is left
  pub tally_end : (j set : ℕ) → Tally E kind k ts p j set → length ts ≤ j → Suffice E (bound_with to kind k ts) p → ⊥
  tally_end j set r h =
      both_ways _ (suffice_is E to kind k ts p false
      (ap (E kind k (length ts)) (sym (ap (mask_by (λ t. p (term_of t))) (take_all j ts h)) ∙ sym r.mask) ∙ r.short))

module _ (f : TermModel → ℤ) (ts : List Term) where
  pub formed_start : (sums : List ℤ) → length sums ≡ 8 → Formed f ts 0 sums
  formed_start sums long = record { long = long; are = refl }

  pub formed_more : (j : ℕ) (sums : List ℤ) (v : ℤ) (d : Term) → length ts ≤ 8 → Formed f ts j sums → j < length ts → v ≡ f (term_of (get_or ts j d))
      → Formed f ts (j + 1) (set sums j v)
  formed_more j sums v d few formed h e =
      let long = formed.long in
      record {
        long = length-set sums j v ∙ formed.long;
        are = take_more_set sums j v (omega arith)
            ∙ ap₂ (λ (a : List ℤ) (w : ℤ). a ++ (w ∷ [])) formed.are e
            ∙ sym (ap (map (λ t. f (term_of t))) (take_more ts j d h) ∙ map-append (λ t. f (term_of t)) (take j ts) (get_or ts j d ∷ []));
      }

  map_both : (us : List Term) → map (λ t. f (term_of t)) us ≡ map f (map term_of us)
  map_both [] = refl
  map_both (u ∷ us) = ap (λ (vs : List ℤ). f (term_of u) ∷ vs) (map_both us)

  -- all sums are formed: the latest time that the rule permits by them
  module _ {A : Admits} {E : Enough} (laws : Laws A E) (to kind k j : ℕ) (sums : List ℤ) (formed : Formed f ts j sums) (left : length ts ≤ j) (end : j ≤ length ts) where
    all_sums : take (length ts) sums ≡ map f (map term_of ts)
    all_sums =
        let e : length ts ≡ j = omega arith in
        subst (λ (i : ℕ). take i sums ≡ map f (map term_of ts)) (sym e)
        (formed.are ∙ ap (map (λ t. f (term_of t))) (take_all j ts left) ∙ map_both ts)

    at_sums : (v : ℤ) (r : Bool) → E kind k (length (take (length ts) sums)) (mask_by (le_z v) (take (length ts) sums)) ≡ r
        → E kind k (length (map term_of ts)) (mask_by (λ m. le_z v (f m)) (map term_of ts)) ≡ r
    at_sums v r e =
        ap₂ (λ (n a : ℕ). E kind k n a) (sym (ap length all_sums ∙ length-map (map term_of ts) f)) (sym (ap (mask_by (le_z v)) all_sums ∙ mask_map (le_z v) f (map term_of ts))) ∙ e

    pub latest_permitted : (v : ℤ) → LatestTime E kind k (take (length ts) sums) v → Suffice E (bound_with to kind k ts) (λ m. le_z v (f m))
    latest_permitted v latest = at_sums v true latest.permitted

    pub latest_last : (v : ℤ) → LatestTime E kind k (take (length ts) sums) v → Suffice E (bound_with to kind k ts) (λ m. le_z (v +ℤ pos 1) (f m)) → ⊥
    latest_last v latest = both_ways _ (at_sums (v +ℤ pos 1) false latest.last)

    many : length (take (length ts) sums) ≡ length (map term_of ts)
    many = ap length all_sums ∙ length-map (map term_of ts) f

    pub latest-admitted : (v : ℤ) → LatestTime E kind k (take (length ts) sums) v → A kind k (length (map term_of ts)) ≡ true
    latest-admitted v latest = sym (ap (A kind k) many) ∙ permitted_admitted laws kind k (take (length ts) sums) _ latest.permitted

    pub none-refused : A kind k (length (take (length ts) sums)) ≡ false → A kind k (length (map term_of ts)) ≡ false
    none-refused out = sym (ap (A kind k) many) ∙ out

-- what holds of the terms holds of each term of the program
pub term_at_lem : (P : TermModel → Type 0) (ts : List Term) (j : ℕ) (d : Term) → j < length ts → AllByRecursion P (map term_of ts) → P (term_of (get_or ts j d))
term_at_lem P ts j d h all =
    subst P (get_or-map term_of ts j d (term_of d) h) (All-get_or P (map term_of ts) j (term_of d) (simp length-map h) all)
