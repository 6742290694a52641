-- The events on the two sides of an empty band may move apart, or nearer by a tick: all bounds are still kept.
-- Across such a band a term from below never allows, and one from above always does.
use Rattle.std.proofs.Common.{◌≡◌, ℕ, ◌<◌, cond, ◌⊎◌, List, ℤ, pos, ◌+ℤ◌, ◌≤ℤ◌, ◌<ℤ◌, arith}
use lib.Signed.{lt_z}
use Rattle.std.specs.List.{AllByRecursion}
use Rattle.std.proofs.lemmas.Int.{ints}
use Rattle.rules.specs.Laws.{Admits, Enough, Laws}
use Rattle.timing.specs.Model.{BoundModel, BoundWithin}
use Rattle.timing.specs.Timetables.{Timetable, Keeps, KeepsAll}
use Rattle.timing.proofs.Keeping.{all_both, choice, keeps_within}

-- none of the n events in the W ticks after c
abbrev pub Empty : Timetable → ℕ → ℤ → ℕ → Type 0
Empty t n c W = (e : ℕ) → e < n → (t e ≤ℤ c) ⊎ ((c +ℤ pos W) <ℤ t e)

-- what is later than c moves by `above`, the rest by `below`
abbrev pub moved : ℤ → ℤ → ℤ → Timetable → Timetable
moved c above below t e = cond (lt_z c (t e)) (t e +ℤ above) (t e +ℤ below)

pub moved_is : (c above below : ℤ) (t : Timetable) (e : ℕ)
    → ((c <ℤ t e) × (moved c above below t e ≡ t e +ℤ above)) ⊎ ((t e ≤ℤ c) × (moved c above below t e ≡ t e +ℤ below))
moved_is c above below t e = choice c (t e) (t e +ℤ above) (t e +ℤ below)

-- the lower events come nearer to the upper ones by at most a tick
pub keeps_all_moved : {A : Admits} {E : Enough} (laws : Laws A E) (n D : ℕ) (bs : List BoundModel) → AllByRecursion (BoundWithin n D) bs
    → (c above below : ℤ) → below ≤ℤ (above +ℤ pos 1) → (t : Timetable) → Empty t n c D → KeepsAll E bs t → KeepsAll E bs (moved c above below t)
keeps_all_moved {A} {E} laws n D bs within c above below nearer t empty =
    all_both (BoundWithin n D) (Keeps E t) (Keeps E (moved c above below t))
    (λ b w. keeps_within laws n D t (moved c above below t) b w (λ m wm a.
    omega (arith, ints, empty b.to w.0, empty m.from wm.0, moved_is c above below t b.to, moved_is c above below t m.from)))
    bs within
