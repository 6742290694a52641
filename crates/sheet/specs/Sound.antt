-- What holds of every sheet that calls can make.
use Rattle.std.specs.Prelude.{◌≡◌, ℕ, ◌<◌, false, List, [], map, length, get_or, is_some, vec_items, Vec, ◌≢◌, slice_index_or}
use Rattle.std.specs.declared.alloc.Global.{Global}
use Rattle.text.specs.Spelled.{spelled}
use Rattle.text.specs.declared.name.Name.{Name}
use Rattle.timing.specs.Bounds.{bound_of}
use Rattle.timing.specs.Model.{BoundModel}
use Rattle.timing.specs.declared.bound.Bound.{Bound}
use Rattle.sheet.specs.Plain.{PlainSheet, terms_fault}

-- the plain sheet with these names and bounds
abbrev pub plain_of : Vec Name Global → Vec Bound Global → PlainSheet
plain_of ns bs = record { names = map spelled (vec_items ns); bounds = map bound_of (vec_items bs) }

-- no two events have one name
abbrev pub Distinct : List (List ℕ) → Type 0
Distinct ns = (i j : ℕ) → i < j → j < length ns → slice_index_or ns i [] ≢ slice_index_or ns j []

-- each bound is on an event of the sheet
abbrev pub Aimed : PlainSheet → Type 0
Aimed s = (i : ℕ) (d : BoundModel) → i < length s.bounds → (get_or s.bounds i d).to < length s.names

-- each term is from an event of the sheet, with a delay in range
abbrev pub Termed : PlainSheet → Type 0
Termed s = (i : ℕ) (d : BoundModel) → i < length s.bounds → is_some (terms_fault (length s.names) (get_or s.bounds i d).terms) ≡ false
