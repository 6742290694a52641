-- What is to be settled, in the lists that the program holds.
use Rattle.std.specs.Prelude.{◌≡◌, ℕ, ◌<◌, ◌≤◌, Bool, true, false, ◌⊎◌, List, map, length, ℤ, pos, neg_ℤ, ◌≤ℤ◌, slice_index_or}
use Rattle.std.specs.List.{AllByRecursion}
use Rattle.rules.specs.Laws.{Enough}
use Rattle.timing.specs.declared.bound.Bound.{Bound}
use Rattle.timing.specs.Bounds.{bound_of}
use Rattle.timing.specs.Limits.{delay_limit}
use Rattle.timing.specs.Model.{TermModel, BoundModel, TermWithin}
use Rattle.timing.specs.Timetables.{times}
use Rattle.timing.specs.Places.{far_mark, span}
use Rattle.timing.specs.Knots.{those}
use Rattle.timing.specs.Rise.{Task, Phase, Quiet}

-- the flag of a bound, by its number
abbrev pub flag : List Bool → ℕ → Bool
flag flags i = slice_index_or flags i false

-- of the flags of 256 bounds, the first i are set
pub record First (i : ℕ) (flags : List Bool) : Type 0 where
  pub long : length flags ≡ 256
  pub below : (j : ℕ) → j < i → flag flags j ≡ true
  pub past : (j : ℕ) → i ≤ j → flag flags j ≡ false

-- the bounds whose flags are set
abbrev pub taking_part : List Bool → List Bound → List BoundModel
taking_part flags bounds = those (flag flags) (map bound_of bounds)

-- to settle those bounds, over n events and from a source
abbrev pub task_of : Enough → List Bool → List Bound → ℕ → ℕ → Task
task_of E flags bounds n source =
    record { meaning = E; limit = delay_limit; events = n; source = source; bounds = taking_part flags bounds }

-- a time from -63 D to the far mark
abbrev pub InRange : ℤ → Type 0
InRange v = (neg_ℤ (span delay_limit) ≤ℤ v) × (v ≤ℤ far_mark delay_limit)

-- a term whose sum the program can form
abbrev pub Summable : List ℤ → TermModel → Type 0
Summable ts m = TermWithin 64 delay_limit m × InRange (times ts m.from)

-- the n events at one time, but the source at 0
pub record Level (n source : ℕ) (v : ℤ) (ts : List ℤ) : Type 0 where
  pub long : length ts ≡ 64
  pub starts : times ts source ≡ pos 0
  pub others : (e : ℕ) → e < n → (times ts e ≡ v) ⊎ (source ≡ e)

-- a phase that is over: no bound asks for more
pub record PhaseOver (k : Task) (x y : List ℤ) : Type 0 where
  pub long : length y ≡ 64
  pub stands : Phase k (times x) (times y)
  pub quiet : AllByRecursion (Quiet k (times x) (times y)) k.bounds

-- a bound that the program can test these times against
abbrev pub Testable : List ℤ → BoundModel → Type 0
Testable ts b = (b.to < 64) × AllByRecursion (Summable ts) b.terms
