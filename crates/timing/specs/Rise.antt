-- A timetable that rises, phase by phase, until it is the places or breaks a bound.
use Rattle.std.specs.Prelude.{◌≡◌, ℕ, zero, suc, ◌+◌, ◌<◌, cond, ◌&&◌, List, ℤ, pos, negsuc, ◌+ℤ◌, neg_ℤ, ◌≤ℤ◌, ◌<ℤ◌, int_le, int_lt}
use Rattle.std.specs.List.{AllByRecursion}
use Rattle.rules.specs.Laws.{Enough}
use Rattle.timing.specs.Model.{TermModel, BoundModel}
use Rattle.timing.specs.Timetables.{Timetable, allows, Suffice, KeepsAll}
use Rattle.timing.specs.Places.{far_mark, span, Eligible, Places}

-- what is to be settled: bounds over some events, from a source
pub record Task : Type 0 where
  pub meaning : Enough
  pub limit : ℕ
  pub events : ℕ
  pub source : ℕ
  pub bounds : List BoundModel

abbrev pub EligibleFor : Task → Timetable → Type 0
EligibleFor k t = Eligible k.meaning k.limit k.events k.source k.bounds t

abbrev pub PlacesOf : Task → Timetable → Type 0
PlacesOf k p = Places k.meaning k.limit k.events k.source k.bounds p

-- each event at the later of its two times
abbrev pub join : Timetable → Timetable → Timetable
join t u e = cond (int_lt (u e) (t e)) (t e) (u e)

-- a term's sum in the phase from x: a term that does not allow in x is no better than leaving TO where it is in x
abbrev pub phase_sum : Timetable → Timetable → ℕ → TermModel → ℤ
phase_sum x y to m = cond (int_lt (x m.from +ℤ m.delay) (x to)) (x to) (y m.from +ℤ m.delay)

-- the terms whose sums in the phase are not before v are enough
abbrev pub Permits : Task → Timetable → Timetable → BoundModel → ℤ → Type 0
Permits k x y b v = Suffice k.meaning b (λ m. int_le v (phase_sum x y b.to m))

-- u lifts some events of x, each held up by terms that allow both before and after
pub record Lifted (k : Task) (x u : Timetable) : Type 0 where
  pub starts : u k.source ≡ pos 0
  pub low : (e : ℕ) → e < k.events → x e ≤ℤ u e
  pub high : (e : ℕ) → e < k.events → u e ≤ℤ far_mark k.limit
  pub lifts : AllByRecursion (λ b. x b.to <ℤ u b.to → Suffice k.meaning b (λ m. allows x b.to m && allows u b.to m)) k.bounds

-- y in the phase from x: no lift of x passes it
pub record Phase (k : Task) (x y : Timetable) : Type 0 where
  pub base : x k.source ≡ pos 0
  pub starts : y k.source ≡ pos 0
  pub low : (e : ℕ) → e < k.events → x e ≤ℤ y e
  pub high : (e : ℕ) → e < k.events → y e ≤ℤ far_mark k.limit
  pub top : (u : Timetable) → Lifted k x u → (e : ℕ) → e < k.events → u e ≤ℤ y e

-- the bound asks for no lower y
abbrev pub Quiet : Task → Timetable → Timetable → BoundModel → Type 0
Quiet k x y b = Permits k x y b (y b.to)

-- no event before -63 D
abbrev pub Low : Task → Timetable → Type 0
Low k t = (e : ℕ) → e < k.events → neg_ℤ (span k.limit) ≤ℤ t e

-- x, between two phases: joined with it, any low eligible timetable still keeps all bounds
pub record Rising (k : Task) (x : Timetable) : Type 0 where
  pub starts : x k.source ≡ pos 0
  pub low : Low k x
  pub high : (e : ℕ) → e < k.events → x e ≤ℤ far_mark k.limit
  pub joins : (t : Timetable) → EligibleFor k t → Low k t → KeepsAll k.meaning k.bounds (join t x)

-- where the rise has ended: besides, no eligible timetable is later
pub record Summit (k : Task) (x : Timetable) : Type 0 where
  pub rising : Rising k x
  pub latest : (t : Timetable) → EligibleFor k t → (e : ℕ) → e < k.events → t e ≤ℤ x e

-- how far an integer is above 0
abbrev pub over : ℤ → ℕ
over (pos n) = n
over (negsuc n) = 0

-- how far y stands above x, all in all
unfoldable pub room : Timetable → Timetable → ℕ → ℕ
room x y zero = 0
room x y (suc n) = room x y n + over (y n +ℤ neg_ℤ (x n))
