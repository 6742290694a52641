-- Reading a numeral: its digits, and then its range.
use Rattle.std.proofs.Common.{◌≡◌, ◌<◌, ◌≤◌, min, true, false, ℤ, pos, negsuc, ◌≤ℤ◌, ◌<ℤ◌, Some, None, Ok, Err, Option, sym, refl, ap, ◌∙◌, ⊎_elim, arith, w32, SFits}
use lib.Signed.{le_z}
use Rattle.std.proofs.lemmas.Int.{ints}
use Rattle.std.proofs.lemmas.Bool.{cases_lt}
use Rattle.std.specs.Option.{option_map}
use Rattle.text.specs.declared.numeral.NumeralFault.TheVariants.{Malformed, OutOfRange}
use Rattle.text.specs.Numerals.{ranged, capped, capped_size}

-- a value past the cap is in no range
pub ranged-none : (least most : ℤ) (o : Option ℤ) → None ≡ option_map capped_size o → ranged least most o ≡ Err Malformed
ranged-none least most None e = refl
ranged-none least most (Some z) e = absurd (grind arith)

pub out_over : (least most z : ℤ) → most <ℤ z → ranged least most (Some z) ≡ Err OutOfRange
out_over least most z h = let t : le_z z most ≡ false = grind (arith, ints) in grind arith

pub out_under : (least most z : ℤ) → z <ℤ least → ranged least most (Some z) ≡ Err OutOfRange
out_under least most z h = let t : le_z least z ≡ false = grind (arith, ints) in grind arith

pub ranged_some : (least most v : ℤ) (o : Option ℤ) → SFits w32 least → SFits w32 most → Some v ≡ option_map capped_size o → ranged least most (Some v) ≡ ranged least most o
ranged_some least most v None f g e = absurd (grind arith)
ranged_some least most v (Some (pos n)) f g e =
    let w : v ≡ pos (capped n) = cc in
    ⊎_elim (λ (h : n < 4294967296). ap (λ (z : ℤ). ranged least most (Some z)) (w ∙ ap pos (omega arith)))
    (λ (h : 4294967296 ≤ n). out_over least most v (omega (arith, ints)) ∙ sym (out_over least most (pos n) (omega (arith, ints))))
    (cases_lt n 4294967296)
ranged_some least most v (Some (negsuc n)) f g e =
    let w : v ≡ negsuc (min n 4294967294) = cc in
    ⊎_elim (λ (h : n < 4294967295). ap (λ (z : ℤ). ranged least most (Some z)) (w ∙ ap negsuc (omega arith)))
    (λ (h : 4294967295 ≤ n). out_under least most v (omega (arith, ints)) ∙ sym (out_under least most (negsuc n) (omega (arith, ints))))
    (cases_lt n 4294967295)

pub in_range : (least most z : ℤ) → least ≤ℤ z → z ≤ℤ most → ranged least most (Some z) ≡ Ok z
in_range least most z h k =
    let low : le_z least z ≡ true = grind (arith, ints) in
    let high : le_z z most ≡ true = grind (arith, ints) in
    rw (low, high)
