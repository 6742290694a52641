-- What a linear, a delay and a limit record mean: which timetables keep the bounds that they add.
use Rattle.std.specs.Prelude.{◌≡◌, ℕ, ◌<◌, ◌≤◌, true, List, [], ◌∷◌, length, ℤ, ◌+ℤ◌, ◌≤ℤ◌, Some, None, Option, int_le, slice_index_or}
use Rattle.std.specs.List.{AllByRecursion}
use Rattle.rules.specs.Laws.{Enough}
use Rattle.rules.specs.Masks.{mask_by}
use Rattle.timing.specs.Timetables.{Timetable, KeepsAll}
use Rattle.timing.specs.declared.bound.Term.{Term}
use Rattle.records.specs.declared.entry.Input.{Input}
use Rattle.records.specs.Entries.{linear_bounds, delay_bounds, limit_bound}

-- each follows from the other
abbrev pub Same : Type 0 → Type 0 → Type 0
Same P Q = (P → Q) × (Q → P)

-- FROM + LOW ≤ TO, where LOW is given
abbrev pub NotBefore : Timetable → ℕ → ℕ → Option ℤ → Type 0
NotBefore t from to None = Unit {0}
NotBefore t from to (Some low) = (t from +ℤ low) ≤ℤ t to

-- TO ≤ FROM + HIGH, where HIGH is given
abbrev pub NotAfter : Timetable → ℕ → ℕ → Option ℤ → Type 0
NotAfter t from to None = Unit {0}
NotAfter t from to (Some high) = t to ≤ℤ (t from +ℤ high)

-- linear: FROM + LOW ≤ TO ≤ FROM + HIGH
abbrev pub LinearMeans : Enough → Type 0
LinearMeans enough =
    (from to : ℕ) (low high : Option ℤ) (t : Timetable)
    → Same (KeepsAll enough (linear_bounds from to low high) t) (NotBefore t from to low × NotAfter t from to high)

-- TO is not later than the latest of FROM + HIGH: than one of them
abbrev pub NotAfterLatest : Timetable → ℕ → List Input → Type 0
NotAfterLatest t to inputs = (i : ℕ) × (i < length inputs) × ((d : Input) → t to ≤ℤ (t (slice_index_or inputs i d).from +ℤ (slice_index_or inputs i d).high))

-- delay: TO ≤ the latest of FROM + HIGH, and each FROM + LOW ≤ TO; there are one to eight inputs
abbrev pub DelayMeans : Enough → Type 0
DelayMeans enough =
    (to : ℕ) (inputs : List Input) (t : Timetable) → 1 ≤ length inputs → length inputs ≤ 8
    → Same (KeepsAll enough (delay_bounds to inputs) t) (NotAfterLatest t to inputs × AllByRecursion (λ i. NotBefore t i.from to i.low) inputs)

-- limit: those of TO ≤ FROM + HIGH that hold are enough by the rule
abbrev pub LimitMeans : Enough → Type 0
LimitMeans enough =
    (kind k to : ℕ) (terms : List Term) (t : Timetable)
    → Same (KeepsAll enough (limit_bound kind k to terms ∷ []) t)
    (enough kind k (length terms) (mask_by (λ m. int_le (t to) (t m.from +ℤ m.delay)) terms) ≡ true)
