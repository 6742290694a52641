-- A number as it is written, and that reading it gives it back.
use Rattle.std.proofs.Common.{◌≡◌, ℕ, zero, suc, ◌^◌, ◌<◌, ◌≤◌, true, false, not, ◌&&◌, ◌||◌, eqb, ltb, ◌⊎◌, List, [], ◌∷◌, length, get_or, drop, ℤ, pos, negsuc, ◌≤ℤ◌, Some, None, Ok, Err, decimal, Option, Result, sym, refl, ap, ◌∙◌, inl, inr, ⊎_elim, arith, w32, SFits, rules}
use lib.Signed.{mag, le_z}
use Rattle.std.specs.Option.{option_map}
use Rattle.std.specs.Char.{is_ascii_digit}
use Rattle.std.specs.Fmt.{signed_decimal}
use Rattle.std.proofs.lemmas.Fmt.{decimal_nonempty, first_decimal, length-decimal-le, digits_decimal, digits_value-decimal, decimal-digits_value}
use Rattle.std.proofs.lemmas.Str.Parse.{IsNumeralModel, numerals_by_fold, not_in_digits}
use Rattle.std.proofs.lemmas.Int.{ints}
use Rattle.std.proofs.lemmas.Bool.{cond-true, cond-false, and_from, and_parts, eqb-true, ne_eqb, cases_lt, cases_Bool}
use Rattle.std.proofs.lemmas.Bool.Decides.{nat_tests}
use Rattle.text.specs.Checks.{each}
use Rattle.text.specs.declared.numeral.NumeralFault.{NumeralFault}
use Rattle.text.specs.declared.numeral.NumeralFault.TheVariants.{OutOfRange}
use Rattle.text.specs.Numerals.{read_on, is_natural, natural, negative, numeral, ranged, JustWritten}
use Rattle.text.proofs.Numerals.{in_range}

-- our words for digits and their value are those of the library
own : IsNumeralModel (λ ds. each is_ascii_digit ds ≡ true) (read_on 0)
own = numerals_by_fold _ (search rules) read_on (search rules)

-- digits and their first byte, as `isNatural` tests them
plain : (len first : ℕ) → 0 < len → ((len ≤ 1) ⊎ (48 < first)) → (ltb 0 len && (eqb len 1 || not (eqb first 48))) ≡ true
plain len first some h = grind (arith, nat_tests)

not_plain : (len first : ℕ) → (ltb 0 len && (eqb len 1 || not (eqb first 48))) ≡ true → (0 < len) × (first ≡ 48 → len ≡ 1)
not_plain len first e = (grind (arith, nat_tests), λ h. grind (arith, nat_tests))

natural_decimal : (n : ℕ) → n < 2 ^ 64 → natural (decimal n) ≡ Some n
natural_decimal n small =
    let first =
    ⊎_elim (λ (z : n < 1). inl (length-decimal-le 1 n (omega arith) (omega arith) small)) (λ (p : 1 ≤ n). inr (first_decimal n p small)) (cases_lt n 1) in
    cond-true (is_natural (decimal n)) _ _
    (and_from _ _ (digits_decimal own n small) (plain (length (decimal n)) (get_or (decimal n) 0 0) (decimal_nonempty n small) first))
    ∙ ap Some (digits_value-decimal own n small)

natural-only : (ds : List ℕ) (n : ℕ) → n < 2 ^ 64 → natural ds ≡ Some n → ds ≡ decimal n
natural-only ds n small e =
    ⊎_elim
    (λ (yes : is_natural ds ≡ true).
    let parts = and_parts (each is_ascii_digit ds) _ yes in
    let rest = not_plain (length ds) (get_or ds 0 0) parts.1 in
    let same : read_on 0 ds ≡ n = let f : natural ds ≡ Some (read_on 0 ds) = cond-true _ _ _ yes in cc in
    sym (decimal-digits_value own ds parts.0 rest.0 rest.1 (omega arith)) ∙ ap decimal same)
    (λ (no : is_natural ds ≡ false). let f : natural ds ≡ None = cond-false _ _ _ no in absurd (grind arith))
    (cases_Bool (is_natural ds))

-- a digit is no minus
no_minus : (n : ℕ) → n < 2 ^ 64 → eqb (get_or (decimal n) 0 0) 45 ≡ false
no_minus n small =
    ne_eqb _ _ (not_in_digits own (decimal n) 45 (digits_decimal own n small) (λ h. omega arith) 0 (decimal_nonempty n small))

-- reading what was written gives the number
pub numeral_decimal : (n : ℕ) → n < 2 ^ 64 → numeral (decimal n) ≡ Some (pos n)
numeral_decimal n small = rw (no_minus n small) (ap (option_map pos) (natural_decimal n small))

pub numeral_signed : (z : ℤ) → mag z < 2 ^ 63 → numeral (signed_decimal z) ≡ Some z
numeral_signed (pos n) small = numeral_decimal n (omega arith)
numeral_signed (negsuc n) small = ap negative (natural_decimal (suc n) (omega arith))

no_sign : (bs : List ℕ) (z : ℤ) → mag z < 2 ^ 63 → (o : Option ℕ) → natural bs ≡ o → option_map pos o ≡ Some z → bs ≡ signed_decimal z
no_sign bs z small None p e = absurd (grind arith)
no_sign bs z small (Some n) p e =
    let same : pos n ≡ z = cc in
    let f : n < 2 ^ 64 = omega (arith, ints) in
    natural-only bs n f p ∙ ap signed_decimal same

signed_from : (bs ds : List ℕ) (z : ℤ) → mag z < 2 ^ 63 → bs ≡ 45 ∷ ds → (o : Option ℕ) → natural ds ≡ o → negative o ≡ Some z → bs ≡ signed_decimal z
signed_from bs ds z small b None p e = absurd (grind arith)
signed_from bs ds z small b (Some zero) p e = absurd (grind arith)
signed_from bs ds z small b (Some (suc n)) p e =
    let same : negsuc n ≡ z = cc in
    let f : suc n < 2 ^ 64 = omega (arith, ints) in
    b ∙ ap (λ (l : List ℕ). 45 ∷ l) (natural-only ds (suc n) f p) ∙ ap signed_decimal same

after_minus : (bs : List ℕ) (z : ℤ) → mag z < 2 ^ 63 → get_or bs 0 0 ≡ 45 → negative (natural (drop 1 bs)) ≡ Some z → bs ≡ signed_decimal z
after_minus [] z small h e = absurd (omega arith)
after_minus (b ∷ ds) z small h e = signed_from (b ∷ ds) ds z small (ap (λ (x : ℕ). x ∷ ds) h) (natural ds) refl e

-- and a number is read from nothing else
pub numeral-only : (bs : List ℕ) (z : ℤ) → mag z < 2 ^ 63 → numeral bs ≡ Some z → bs ≡ signed_decimal z
numeral-only bs z small e =
    ⊎_elim
    (λ (minus : eqb (get_or bs 0 0) 45 ≡ true). after_minus bs z small (eqb-true (get_or bs 0 0) 45 minus) (rw minus at e))
    (λ (none : eqb (get_or bs 0 0) 45 ≡ false). no_sign bs z small (natural bs) refl (rw none at e))
    (cases_Bool (eqb (get_or bs 0 0) 45))

-- what a range lets through lies in it
ranged_ok : (least most z : ℤ) (o : Option ℤ) → ranged least most o ≡ Ok z → (o ≡ Some z) × (least ≤ℤ z) × (z ≤ℤ most)
ranged_ok least most z None e = absurd (grind arith)
ranged_ok least most z (Some y) e =
    ⊎_elim
    (λ (yes : (le_z least y && le_z y most) ≡ true).
    let same : y ≡ z = let f : ranged least most (Some y) ≡ Ok y = cond-true _ _ _ yes in cc in
    let parts = and_parts (le_z least y) (le_z y most) yes in
    (ap Some same, grind (arith, ints), grind (arith, ints)))
    (λ (no : (le_z least y && le_z y most) ≡ false).
    let f : ranged least most (Some y) ≡ Err OutOfRange = cond-false _ _ _ no in absurd (grind arith))
    (cases_Bool (le_z least y && le_z y most))

between_small : (least most z : ℤ) → SFits w32 least → SFits w32 most → least ≤ℤ z → z ≤ℤ most → mag z < 2 ^ 63
between_small least most (pos n) f g low high = omega (arith, ints)
between_small least most (negsuc n) f g low high = omega (arith, ints)

pub just_written : (least most : ℤ) (bs : List ℕ) (r : Result ℤ NumeralFault) → SFits w32 least → SFits w32 most
    → r ≡ ranged least most (numeral bs) → JustWritten least most bs r
just_written least most bs r f g e z = (
  (λ ok. let p = ranged_ok least most z (numeral bs) (sym e ∙ ok) in
      (numeral-only bs z (between_small least most z f g p.1 p.2) p.0, p.1, p.2)),
  (λ is low high.
      e ∙ ap (ranged least most) (ap numeral is ∙ numeral_signed z (between_small least most z f g low high)) ∙ in_range least most z low high),
)
