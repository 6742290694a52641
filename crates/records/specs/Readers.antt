-- What the reader of a line has before it: the names of the events, and the fields of the line.
use Rattle.std.specs.Prelude.{ℕ, List, [], slice_index_or}
use Rattle.rules.specs.declared.RuleSet.{Ghosts}
use Rattle.text.specs.declared.fault.Place.{Place}
use Rattle.text.specs.Split.{fields_of}
use Rattle.sheet.specs.Model.{sheet_of}
use Rattle.records.specs.declared.reader.LineReader.{LineReader}
use Rattle.records.specs.Fields.{placed}

abbrev pub names_for : {R : Type 0} {G : Ghosts R} → LineReader R G → List (List ℕ)
names_for r = (sheet_of r.sheet.now).names

abbrev pub fields_in : {R : Type 0} {G : Ghosts R} → LineReader R G → List (List ℕ)
fields_in r = fields_of r.line.bytes.now

-- the field with index k, and its place
abbrev pub field_in : {R : Type 0} {G : Ghosts R} → LineReader R G → ℕ → List ℕ
field_in r k = slice_index_or (fields_in r) k []

abbrev pub here : {R : Type 0} {G : Ghosts R} → LineReader R G → ℕ → Place
here r k = placed r.line.number k
