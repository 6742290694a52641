-- A text copied to the front of bytes.
use Rattle.std.specs.Prelude.{ℕ, cond, List, ◌++◌, length, drop, Some, None, Option, nat_le}

-- the text's length; None where there are too few bytes
abbrev pub copied_length : List ℕ → List ℕ → Option ℕ
copied_length text out = cond (nat_le (length text) (length out)) (Some (length text)) None

-- the bytes after the text stay; where there are too few, all stay
abbrev pub copied_onto : List ℕ → List ℕ → List ℕ
copied_onto text out = cond (nat_le (length text) (length out)) (text ++ drop (length text) out) out
