-- The theorems, as the contracts state them.
use Rattle.std.proofs.Common.{◌≡◌, ℕ, ◌≤◌, ◌⊎◌, List, length, ℤ, ◌≤ℤ◌, Some, None, inl, inr, arith}
use Rattle.std.proofs.lemmas.Int.{ints}
use Rattle.timing.specs.Model.{BoundModel, IsSheet}
use Rattle.timing.specs.Timetables.{Timetable}
use Rattle.timing.specs.Places.{span, Open, separation}
use Rattle.timing.specs.Theorems.{
  PlacesAreUnique,
  ContradictionIgnoresTheSource,
  SomeTimetableStaysLow,
  FarPlacesAreOpen,
  NearPlacesAreExact,
  NoPlaceBetween,
  KnotIsMinimal,
  KnotIsUnique,
}
use Rattle.timing.proofs.Keeping.{choice}
use Rattle.timing.proofs.Range.{far, near, made_eligible, none_eligible, place_low, low-all, gap}
use Rattle.timing.proofs.Trials.{knot_contradictory, knot_least, knot_unique}

-- the range is shown for 64 events, and so for fewer
fewer : (N D n : ℕ) (bs : List BoundModel) → N ≤ 64 → IsSheet N D n bs → IsSheet 64 D n bs
fewer N D n bs few sheet = record { few = omega arith; limit = sheet.limit; bounds = sheet.bounds }

pub places_are_unique : PlacesAreUnique
places_are_unique E D n source bs p q pp qq e he = omega (arith, ints, pp.latest q qq.eligible e he, qq.latest p pp.eligible e he)

pub contradiction_ignores_the_source : (N : ℕ) → N ≤ 64 → ContradictionIgnoresTheSource N
contradiction_ignores_the_source N few A E laws D n bs sheet source inside =
    (none_eligible laws D n bs (fewer N D n bs few sheet) source inside, λ none t eligible. none t eligible.keeps)

pub some_timetable_stays_low : (N : ℕ) → N ≤ 64 → SomeTimetableStaysLow N
some_timetable_stays_low N few A E laws D n bs sheet source inside t keeps =
    let s = fewer N D n bs few sheet in
    let r = made_eligible laws D n bs s source inside t keeps in
    low-all laws D n bs s source inside r.0 r.1

pub far_places_are_open : (N : ℕ) → N ≤ 64 → FarPlacesAreOpen N
far_places_are_open N few A E laws D n bs sheet source inside p places e he h =
    far laws D n bs (fewer N D n bs few sheet) source inside p places.eligible.keeps places.eligible.starts e he h

-- an event with a separation has it as its place, within reach
pub separation_is : (D : ℕ) (p : Timetable) (e : ℕ) (v : ℤ) → separation D p e ≡ Some v → (p e ≡ v) × (p e ≤ℤ span D)
separation_is D p e v q = go (choice (span D) (p e) None (Some (p e)))
  where
    go : (Open D p e × (separation D p e ≡ None)) ⊎ ((p e ≤ℤ span D) × (separation D p e ≡ Some (p e))) → (p e ≡ v) × (p e ≤ℤ span D)
    go (inl r) = absurd (let z : ◌≡◌ {A = ℕ} 0 1 = cc in omega arith)
    go (inr r) = (cc, r.0)

pub near_places_are_exact : (N : ℕ) → N ≤ 64 → NearPlacesAreExact N
near_places_are_exact N few A E laws D n bs sheet source inside p places e he v q =
    let s = fewer N D n bs few sheet in
    let r = separation_is D p e v q in (
      omega (arith, ints, place_low laws D n bs s source inside p places e he),
      omega (arith, ints),
      λ t keeps starts. omega (arith, ints, near laws D n bs s source inside p places e he r.1 t keeps starts),
    )

pub no_place_between : (N : ℕ) → N ≤ 64 → NoPlaceBetween N
no_place_between N few A E laws D n bs sheet source inside = gap laws D n bs (fewer N D n bs few sheet) source inside

pub knot_is_minimal : KnotIsMinimal
knot_is_minimal E bs knot none is = (knot_contradictory E bs knot is none, knot_least E bs knot is)

pub knot_is_unique : KnotIsUnique
knot_is_unique E bs knot other p q = knot_unique E bs knot other p q (length bs) (omega arith)
