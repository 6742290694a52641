-- A sheet as text: a line for each event, then a limit line for each bound.
use Rattle.std.specs.Prelude.{◌≡◌, ℕ, ◌<◌, true, cond, List, [], ◌∷◌, ◌++◌, length, drop, Ok, Err, codes, decimal, Result, nat_le, slice_index_or}
use Rattle.std.specs.List.{flat_map}
use Rattle.std.specs.Fmt.{signed_decimal}
use Rattle.rules.specs.Laws.{Admits}
use Rattle.text.specs.Checks.{each}
use Rattle.text.specs.Split.{tabbed}
use Rattle.timing.specs.Model.{TermModel, BoundModel}
use Rattle.sheet.specs.Plain.{PlainSheet}
use Rattle.records.specs.Loads.{admitted, loaded}
use Rattle.records_fault.specs.declared.fault.WriteRefusal.{WriteRefusal}
use Rattle.records_fault.specs.declared.fault.WriteRefusal.TheVariants.{TooFewBytes}

abbrev pub event_fields : List ℕ → List (List ℕ)
event_fields name = codes "event" ∷ name ∷ []

-- FROM HIGH of each term
abbrev pub term_fields : List (List ℕ) → List TermModel → List (List ℕ)
term_fields names [] = []
term_fields names (t ∷ ts) = slice_index_or names t.from [] ∷ signed_decimal t.delay ∷ term_fields names ts

abbrev pub limit_fields : List (List ℕ) → BoundModel → List (List ℕ)
limit_fields names b = codes "limit" ∷ decimal b.kind ∷ decimal b.k ∷ slice_index_or names b.to [] ∷ term_fields names b.terms

-- fields with a tab before each: those of a line after its word
abbrev pub after_tabs : List (List ℕ) → List ℕ
after_tabs fields = flat_map (λ f. 9 ∷ f) fields

abbrev pub line_of : List (List ℕ) → List ℕ
line_of fields = tabbed fields ++ (10 ∷ [])

abbrev pub written : PlainSheet → List ℕ
written s = flat_map (λ name. line_of (event_fields name)) s.names ++ flat_map (λ b. line_of (limit_fields s.names b)) s.bounds

-- a text into bytes handed in: the byte count, or 19 where there are too few
abbrev pub wrote_answer : List ℕ → List ℕ → Result ℕ WriteRefusal
wrote_answer text out = cond (nat_le (length text) (length out)) (Ok (length text)) (Err TooFewBytes)

-- bytes after the text stay; where there are too few, none is written
abbrev pub wrote_bytes : List ℕ → List ℕ → List ℕ
wrote_bytes text out = cond (nat_le (length text) (length out)) (text ++ drop (length text) out) out

-- a kind and a K are bytes
abbrev pub ByteSized : BoundModel → Type 0
ByteSized b = (b.kind < 256) × (b.k < 256)

-- loading the text of a sheet, under rules that admit all its bounds and with any number of slots, gives that sheet and no need
abbrev pub LoadsBack : Admits → PlainSheet → Type 0
LoadsBack admits s = each (admitted admits) s.bounds ≡ true → (slots : ℕ) → loaded admits slots (written s) ≡ Ok (record { sheet = s; needs = [] })
