use Rattle.std.proofs.Common.{◌≡◌, true, take}
use Rattle.std.specs.Char.{is_ascii_digit}
use Rattle.text.specs.Checks.{each}
use Rattle.text.specs.Numerals.{read_on, capped}
use Rattle.text.proofs.numeral.digits_value.Given as goal

-- so far all are digits, and their number is held
abbrev pub invariant-loop-byte : goal.invariant-loop-byte
invariant-loop-byte l =
    (each is_ascii_digit (take l.byte-index l.digits) ≡ true)
    × (l.n ≡ capped (read_on 0 (take l.byte-index l.digits)))
