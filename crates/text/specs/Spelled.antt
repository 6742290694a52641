-- The bytes of what holds a few of them.
use Rattle.std.specs.Prelude.{ℕ, List, take}
use Rattle.text.specs.declared.name.Name.{Name}
use Rattle.text.specs.declared.written.Numeral.{Numeral}

-- the bytes of a name
abbrev pub spelled : Name → List ℕ
spelled n = take n.bytes.len n.bytes.bytes

-- the bytes of a numeral
abbrev pub digits_of : Numeral → List ℕ
digits_of n = take n.bytes.len n.bytes.bytes
