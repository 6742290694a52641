-- Which fault the bytes of a text have, if any.
use Rattle.std.specs.Prelude.{◌≡◌, ℕ, ◌+◌, ◌-◌, ◌≤◌, Bool, true, cond, ◌&&◌, ◌||◌, List, [], ◌∷◌, length, Ok, Err, Result, ◌==◌, nat_le, nat_lt, slice_index}
use Rattle.std.specs.List.{list_all}
use Rattle.text.specs.declared.fault.TextFault.{TextFault}
use Rattle.text.specs.declared.fault.TextFault.TheVariants.{TooLong, Unfinished, BadByte}
use Rattle.text.specs.Split.{parted_by, lines_of}

-- what follows an Ok
abbrev pub and_then : {A B E : Type 0} → Result A E → (A → Result B E) → Result B E
and_then (Ok x) f = f x
and_then (Err e) f = Err e

-- the test holds of each element
abbrev pub each : {X : Type 0} → (X → Bool) → List X → Bool
each p xs = list_all p xs

-- a byte that may stand in a line: a tab, or 32 to 126
abbrev pub allowed : ℕ → Bool
allowed b = b == 9 || (nat_le 32 b && nat_le b 126)

-- every line is ended: the text is empty, or its last byte is 10
abbrev pub finished : List ℕ → Bool
finished text = length text == 0 || slice_index text (length text - 1) == 10

-- the text as a whole; an unfinished line is the one after the last byte 10
abbrev pub whole_text : List ℕ → Result (Unit {0}) TextFault
whole_text text = cond (nat_lt 65536 (length text)) (Err TooLong) (cond (finished text) (Ok tt) (Err (Unfinished (length (parted_by 10 text)))))

-- line n
abbrev pub line_bytes : ℕ → List ℕ → Result (Unit {0}) TextFault
line_bytes n line = cond (each allowed line) (Ok tt) (Err (BadByte n))

-- the lines from line n on, each before the next
abbrev pub lines_bytes : ℕ → List (List ℕ) → Result (Unit {0}) TextFault
lines_bytes n [] = Ok tt
lines_bytes n (l ∷ ls) = and_then (line_bytes n l) (λ _. lines_bytes (n + 1) ls)

-- a whole text
abbrev pub text_fault : List ℕ → Result (Unit {0}) TextFault
text_fault text = and_then (whole_text text) (λ _. lines_bytes 1 (lines_of text))

-- a byte that may stand in a text
abbrev pub text_byte : ℕ → Bool
text_byte b = b == 10 || allowed b

-- a text without fault
pub record Clean (text : List ℕ) : Type 0 where
  pub short : length text ≤ 65536
  pub ended : finished text ≡ true
  pub bytes : each text_byte text ≡ true

-- no fault is found exactly in a text without fault
abbrev pub FaultExactly : List ℕ → Result (Unit {0}) TextFault → Type 0
FaultExactly text r = (r ≡ Ok tt → Clean text) × (Clean text → r ≡ Ok tt)
