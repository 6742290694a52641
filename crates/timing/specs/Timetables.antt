-- Timetables, and what they keep.
use Rattle.std.specs.Prelude.{◌≡◌, ℕ, Bool, true, List, length, ℤ, pos, ◌+ℤ◌, int_le, slice_index_or}
use Rattle.std.specs.List.{AllByRecursion}
use Rattle.rules.specs.Laws.{Enough}
use Rattle.rules.specs.Masks.{mask_by}
use Rattle.timing.specs.Model.{TermModel, BoundModel}

-- a whole number for each event
abbrev pub Timetable : Type 0
Timetable = ℕ → ℤ

-- a list of times, with 0 past its end
abbrev pub times : List ℤ → Timetable
times ts e = slice_index_or ts e (pos 0)

-- a term allows its bound when TO is not later than FROM plus the delay
abbrev pub allows : Timetable → ℕ → TermModel → Bool
allows t to m = int_le (t to) (t m.from +ℤ m.delay)

-- the terms that pass a test are enough for the bound, by the rule of its kind
abbrev pub Suffice : Enough → BoundModel → (TermModel → Bool) → Type 0
Suffice E b test = E b.kind b.k (length b.terms) (mask_by test b.terms) ≡ true

-- a timetable keeps a bound when the terms that allow it are enough
abbrev pub Keeps : Enough → Timetable → BoundModel → Type 0
Keeps E t b = Suffice E b (allows t b.to)

abbrev pub KeepsAll : Enough → List BoundModel → Timetable → Type 0
KeepsAll E bs t = AllByRecursion (Keeps E t) bs

-- no timetable keeps all bounds
abbrev pub Contradictory : Enough → List BoundModel → Type 0
Contradictory E bs = (t : Timetable) → KeepsAll E bs t → ⊥
