-- What a reader hands out.
use Rattle.std.specs.Prelude.{◌≡◌, ℕ, ◌+◌, List, [], ◌∷◌, Some, None, Option}
use Rattle.text.specs.declared.lines.Line.{Line}
use Rattle.text.specs.declared.reader.Reader.{Reader}
use Rattle.text.specs.Split.{lines_of}

-- the lines that are still to come
abbrev pub to_come : Reader → List (List ℕ)
to_come r = lines_of r.rest.now

-- all lines of the text are to come, the first with number 1
abbrev pub Begins : List ℕ → Reader → Type 0
Begins text r = (to_come r ≡ lines_of text) × (r.line ≡ 0)

-- a reader before and after it was asked for a line
abbrev pub HandsOut : Reader → Option Line → Reader → Type 0
HandsOut r None after = (to_come r ≡ []) × (to_come after ≡ []) × (after.line ≡ r.line)
HandsOut r (Some l) after = (to_come r ≡ l.bytes.now ∷ to_come after) × (l.number ≡ r.line + 1) × (after.line ≡ r.line + 1)
