-- The lines that are printed.
use Rattle.std.specs.Prelude.{ℕ, zero, suc, Bool, cond, List, [], ◌∷◌, ◌++◌, ℤ, Some, None, codes, decimal, Option, slice_index_or}
use Rattle.std.specs.Fmt.{signed_decimal}
use Rattle.text.specs.Split.{tabbed}
use Rattle.timing.specs.Timetables.{Timetable}
use Rattle.records.specs.declared.entry.Need.{Need}
use Rattle.records_fault.specs.declared.fault.LoadFault.{LoadFault}
use Rattle.records_fault.specs.Faults.{load_number, load_place}

-- fields with tabs between them, and the end of the line
abbrev pub printed : List (List ℕ) → List ℕ
printed fields = tabbed fields ++ (10 ∷ [])

-- a fault: its number, line and field
abbrev pub fault_line : LoadFault → List ℕ
fault_line fault =
    printed (codes "fault" ∷ decimal (load_number fault) ∷ decimal (load_place fault).line ∷ decimal (load_place fault).field ∷ [])

-- one line for each of the first n bounds that is in the knot
abbrev pub knot_line : ℕ → List ℕ
knot_line i = printed (codes "knot" ∷ decimal i ∷ [])

abbrev pub knot_lines : (ℕ → Bool) → ℕ → List ℕ
knot_lines knot zero = []
knot_lines knot (suc n) = knot_lines knot n ++ cond (knot n) (knot_line n) []

-- the places of the first n events
abbrev pub at_line : List ℕ → ℤ → List ℕ
at_line name place = printed (codes "at" ∷ name ∷ signed_decimal place ∷ [])

abbrev pub at_lines : List (List ℕ) → Timetable → ℕ → List ℕ
at_lines names p zero = []
at_lines names p (suc n) = at_lines names p n ++ at_line (slice_index_or names n []) (p n)

-- a separation, or that there is none
abbrev pub separation_field : Option ℤ → List ℕ
separation_field (Some v) = signed_decimal v
separation_field None = codes "open"

-- a need, its verdict, and the separation of its TO
abbrev pub need_line : List (List ℕ) → Need → List ℕ → Option ℤ → List ℕ
need_line names need verdict separation =
    printed (codes "need" ∷ slice_index_or names need.from [] ∷ slice_index_or names need.to [] ∷ signed_decimal need.most ∷ verdict ∷ separation_field separation ∷ [])
