-- One more line after those that are put.
use Rattle.std.proofs.Common.{◌≡◌, ℕ, ◌+◌, ◌<◌, Bool, true, false, cond, List, [], ◌++◌, map, length, get_or, Some, Ok, Option, Result, ◌⊎◌, ⊎_elim, refl, sym, ap, ◌∙◌, append_assoc, append-nil, add-one}
use Rattle.std.proofs.lemmas.Bool.{cond-true, cond-false}
use Rattle.std.proofs.lemmas.Option.{slice_get-map, slice_get_read}
use Rattle.std.specs.Option.{option_map}
use Rattle.std.specs.List.{slice_get}
use Rattle.text.specs.Spelled.{spelled}
use Rattle.text.specs.declared.name.Name.{Name}
use Rattle.sheet.specs.Plain.{PlainSheet}
use Rattle.sheet.specs.declared.fault.Refusal.{Refusal}
use Rattle.records.specs.declared.entry.Need.{Need}
use Rattle.settle.specs.declared.reading.Reading.{Reading}
use Rattle.settle.specs.Held.{within, verdict_on}
use Rattle.settle.specs.Promise.{ReadAnswers}
use Rattle.report.specs.Puts.{place_put, places_put, verdict_line, need_put, need_put_by}

pub put_more : (before put piece here out : List ℕ) → here ≡ before ++ put → out ≡ here ++ piece → out ≡ before ++ (put ++ piece)
put_more before put piece here out e f = f ∙ ap (λ (l : List ℕ). l ++ piece) e ∙ append_assoc before put piece

pub places_more : (names : List (List ℕ)) (read : ReadAnswers) (before here out : List ℕ) (i : ℕ) → here ≡ before ++ places_put names read i
    → out ≡ here ++ place_put (slice_get names i) (read i) → out ≡ before ++ places_put names read (i + 1)
places_more names read before here out i e f = put_more before _ _ here out e f ∙ ap (λ (n : ℕ). before ++ places_put names read n) (sym (add-one i))

-- a name that stands among the names of a sheet
pub name_there : (ns : List Name) (names : List (List ℕ)) (i : ℕ) (x : Name) → map spelled ns ≡ names → i < length ns → x ≡ get_or ns i x
    → slice_get names i ≡ Some (spelled x)
name_there ns names i x same lt is =
    ap (λ (l : List (List ℕ)). slice_get l i) (sym same) ∙ slice_get-map spelled ns i ∙ ap (option_map spelled) (slice_get_read ns (length ns) i x refl lt is)

-- a need: its line, and after it the places unless it is met
pub need_more : (need : Need) (ns : List Name) (s : PlainSheet) (read : ReadAnswers) (from to : Name) (x : Reading) (met : Bool)
    → map spelled ns ≡ s.names → need.from < length ns → from ≡ get_or ns need.from from → need.to < length ns → to ≡ get_or ns need.to to
    → Ok x ≡ read need.to → Ok met ≡ verdict_on need.most (read need.to) → (before line out : List ℕ)
    → line ≡ before ++ verdict_line need.most (spelled from) (spelled to) x.separation met
    → ((met ≡ true) × (out ≡ line)) ⊎ ((met ≡ false) × (out ≡ line ++ places_put s.names read (length s.names)))
    → out ≡ before ++ need_put_by s read need
need_more need ns s read from to x met same from_lt from_is to_lt to_is held judged before line out p q =
    let places = places_put s.names read (length s.names) in
    let right : met ≡ within need.most x.separation = let e : Ok met ≡ Ok (within need.most x.separation) = judged ∙ ap (verdict_on need.most) (sym held) in cc in
    let rest : out ≡ line ++ cond met [] places =
    ⊎_elim
    (λ (h : (met ≡ true) × (out ≡ line)). h.1 ∙ sym (append-nil line) ∙ ap (λ (l : List ℕ). line ++ l) (sym (cond-true met [] places h.0)))
    (λ (h : (met ≡ false) × (out ≡ line ++ places)). h.1 ∙ ap (λ (l : List ℕ). line ++ l) (sym (cond-false met [] places h.0))) q in
    put_more before (verdict_line need.most (spelled from) (spelled to) x.separation met) (cond met [] places) line out p rest
    ∙ ap (λ (l : List ℕ). before ++ l)
    (ap (λ (m : Bool). verdict_line need.most (spelled from) (spelled to) x.separation m ++ cond m [] places) right
    ∙ ap (λ (o : Option (List ℕ)). need_put need.most o (Some (spelled to)) (Ok x) places) (sym (name_there ns s.names need.from from same from_lt from_is))
    ∙ ap (λ (o : Option (List ℕ)). need_put need.most (slice_get s.names need.from) o (Ok x) places) (sym (name_there ns s.names need.to to same to_lt to_is))
    ∙ ap (λ (r : Result Reading Refusal). need_put need.most (slice_get s.names need.from) (slice_get s.names need.to) r places) held)
