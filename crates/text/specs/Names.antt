-- What a name is.
use Rattle.std.specs.Prelude.{ℕ, Bool, ◌&&◌, ◌||◌, List, length, ◌==◌, nat_le}
use Rattle.text.specs.Checks.{each}

-- A-Z, a-z, 0-9 and _
abbrev pub name_byte : ℕ → Bool
name_byte b = (nat_le 65 b && nat_le b 90) || ((nat_le 97 b && nat_le b 122) || ((nat_le 48 b && nat_le b 57) || b == 95))

-- 1 to 12 of these bytes
abbrev pub is_name : List ℕ → Bool
is_name xs = nat_le 1 (length xs) && (nat_le (length xs) 12 && each name_byte xs)
