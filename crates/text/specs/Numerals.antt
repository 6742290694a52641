-- Numerals: 0, or an optional minus and digits without a leading zero.
use Rattle.std.specs.Prelude.{◌≡◌, ℕ, zero, suc, ◌+◌, ◌-◌, ◌*◌, min, Bool, cond, not, ◌&&◌, ◌||◌, List, length, drop, ℤ, pos, negsuc, ◌≤ℤ◌, Some, None, Ok, Err, Option, Result, ◌==◌, int_le, nat_lt, slice_index}
use Rattle.std.specs.List.{fold}
use Rattle.std.specs.Option.{option_map}
use Rattle.std.specs.Char.{is_ascii_digit}
use Rattle.std.specs.Fmt.{signed_decimal}
use Rattle.text.specs.Checks.{each}
use Rattle.text.specs.declared.numeral.NumeralFault.{NumeralFault}
use Rattle.text.specs.declared.numeral.NumeralFault.TheVariants.{Malformed, OutOfRange}

-- the number that digits write, after those of n
abbrev pub read_on : ℕ → List ℕ → ℕ
read_on n ds = fold (λ m d. m * 10 + (d - 48)) n ds

-- digits, at least one, and more than one only if the first is not 0
abbrev pub is_natural : List ℕ → Bool
is_natural ds = each is_ascii_digit ds && (nat_lt 0 (length ds) && (length ds == 1 || not (slice_index ds 0 == 48)))

abbrev pub natural : List ℕ → Option ℕ
natural ds = cond (is_natural ds) (Some (read_on 0 ds)) None

-- the number after a minus; -0 is malformed
abbrev pub negative : Option ℕ → Option ℤ
negative None = None
negative (Some zero) = None
negative (Some (suc n)) = Some (negsuc n)

-- the value of a numeral; None where it is malformed
abbrev pub numeral : List ℕ → Option ℤ
numeral bs = cond (slice_index bs 0 == 45) (negative (natural (drop 1 bs))) (option_map pos (natural bs))

-- a value that is to lie from least to most
abbrev pub ranged : ℤ → ℤ → Option ℤ → Result ℤ NumeralFault
ranged least most None = Err Malformed
ranged least most (Some z) = cond (int_le least z && int_le z most) (Ok z) (Err OutOfRange)

-- a natural as the reader holds it: whatever lies past 32 bits counts as the largest number of 32 bits
abbrev pub capped : ℕ → ℕ
capped n = min n 4294967295

abbrev pub capped_size : ℤ → ℤ
capped_size (pos n) = pos (capped n)
capped_size (negsuc n) = negsuc (min n 4294967294)

-- a number from least to most is read from the bytes that write it, and from no others
abbrev pub JustWritten : ℤ → ℤ → List ℕ → Result ℤ NumeralFault → Type 0
JustWritten least most bs r =
    (z : ℤ) → ((r ≡ Ok z → (bs ≡ signed_decimal z) × (least ≤ℤ z) × (z ≤ℤ most)) × (bs ≡ signed_decimal z → least ≤ℤ z → z ≤ℤ most → r ≡ Ok z))
