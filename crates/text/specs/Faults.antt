-- The number, layer and place of each fault.
use Rattle.std.specs.Prelude.{ℕ, cond, nat_le}
use Rattle.text.specs.declared.fault.Layer.{Layer}
use Rattle.text.specs.declared.fault.Layer.TheVariants.{Text, Record, Sheet}
use Rattle.text.specs.declared.fault.Place.{Place}
use Rattle.text.specs.declared.fault.TextFault.{TextFault}
use Rattle.text.specs.declared.fault.TextFault.TheVariants.{TooLong, Unfinished, BadByte}

-- a fault's layer by its number: text 1 to 3, record 4 to 8, sheet from 9
abbrev pub layer_of : ℕ → Layer
layer_of n = cond (nat_le n 3) Text (cond (nat_le n 8) Record Sheet)

abbrev pub text_number : TextFault → ℕ
text_number TooLong = 1
text_number (Unfinished line) = 2
text_number (BadByte line) = 3

-- a place without a field
abbrev pub on_line : ℕ → Place
on_line n = record { line = n; field = 0 }

abbrev pub text_place : TextFault → Place
text_place TooLong = on_line 0
text_place (Unfinished line) = on_line line
text_place (BadByte line) = on_line line
