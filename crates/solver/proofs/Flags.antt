-- Flags of bounds, and a bound tried without.
use Rattle.std.proofs.Common.{◌≡◌, ℕ, ◌+◌, ◌-◌, ◌<◌, ◌≤◌, Bool, true, false, List, ◌++◌, map, length, get_or, take, drop, set, replicate, ℤ, Option, Some, None, is_some, sym, ap, ◌∙◌, inl, inr, arith, length-take}
use Rattle.std.proofs.Math.ListN.{get_or-append}
use Rattle.std.proofs.ByRecursion.{All-get_or}
use Rattle.std.proofs.lemmas.List.{get_or-append_right, get_or-drop, get_or-set_same, get_or-set_other, get_or-replicate, get_or_past, length-append, length-drop, length-map, length-replicate, length-set}
use Rattle.std.proofs.lemmas.Bool.{cases_lt, false≢true}
use Rattle.rules.specs.Laws.{Enough}
use Rattle.timing.specs.declared.bound.Bound.{Bound}
use Rattle.timing.specs.Bounds.{bound_of}
use Rattle.timing.specs.Limits.{delay_limit}
use Rattle.timing.specs.Model.{BoundModel, BoundWithin, IsSheet}
use Rattle.timing.specs.Timetables.{Timetable, times, KeepsAll, Contradictory}
use Rattle.timing.specs.Knots.{no_bound, those, Knot}
use Rattle.timing.proofs.Trials.{Trying, trying_step, trying_end}
use Rattle.solver.specs.Tasks.{flag, First}
use Rattle.solver.specs.Solutions.{Solves}

-- so many flags set, in front of those that are not
pub first_of : (n : ℕ) (front : List Bool) → n ≤ 256 → front ≡ replicate (length (take n (replicate 256 false))) true → First n (front ++ drop n (replicate 256 false))
first_of n front few given =
    let all-many : length (replicate 256 false) ≡ 256 = length-replicate 256 false in
    let few-taken : length (take n (replicate 256 false)) ≡ n = omega (arith, length-take n (replicate 256 false)) in
    let is : front ≡ replicate n true = given ∙ ap (λ m. replicate m true) few-taken in
    let front-many : length front ≡ n = ap length is ∙ length-replicate n true in
    record {
      long = omega (arith, length-append front (drop n (replicate 256 false)), length-drop n (replicate 256 false));
      below = λ j h. get_or-append front (drop n (replicate 256 false)) false j (omega arith) ∙ ap (λ l. get_or l j false) is ∙ get_or-replicate n j true false h;
      past = λ j h.
          get_or-append_right front (drop n (replicate 256 false)) n j false front-many h
          ∙ get_or-drop n (replicate 256 false) (j - n) false
          ∙ elim (cases_lt (n + (j - n)) 256) [
            | inl l ↦ get_or-replicate 256 (n + (j - n)) false false l
            | inr q ↦ get_or_past (replicate 256 false) (n + (j - n)) false (omega arith)
          ];
    }

-- the bounds below i have been tried, and the flags say which still stand
pub record Tried (E : Enough) (bounds : List Bound) (flags : List Bool) (i : ℕ) : Type 0 where
  pub long : length flags ≡ 256
  pub past : (j : ℕ) → length bounds ≤ j → flag flags j ≡ false
  pub trying : Trying E (map bound_of bounds) (flag flags) i

module _ (E : Enough) (bounds : List Bound) where
  pub tried_knot : (flags : List Bool) (i : ℕ) → length bounds ≤ i → Tried E bounds flags i → Knot E (map bound_of bounds) (flag flags)
  tried_knot flags i h tried = trying_end E (map bound_of bounds) (flag flags) i (simp length-map h) tried.trying

  module _ (flags : List Bool) (i : ℕ) (h : i < length bounds) (few : length bounds ≤ 256) (tried : Tried E bounds flags i) where
    h' : i < length (map bound_of bounds)
    h' = simp length-map h

    inside : i < length flags
    inside = let long = tried.long in omega arith

    others : (j : ℕ) → (j ≡ i → ⊥) → flag (set flags i false) j ≡ flag flags j
    others j q = get_or-set_other flags i j false false q

    out : flag (set flags i false) i ≡ false
    out = get_or-set_same flags i false false inside

    -- it stays where the bounds admit a timetable without it, and is left out where they admit none
    pub tried_more : (stays : Bool) → (stays ≡ true → (t : Timetable) × KeepsAll E (those (flag (set flags i false)) (map bound_of bounds)) t)
        → (stays ≡ false → Contradictory E (those (flag (set flags i false)) (map bound_of bounds))) → Tried E bounds (set (set flags i false) i stays) (i + 1)
    tried_more stays one none =
        record {
          long = length-set (set flags i false) i stays ∙ length-set flags i false ∙ tried.long;
          past = λ j l. after j (omega arith) ∙ tried.past j l;
          trying = trying_step E (map bound_of bounds) (flag flags) (flag (set flags i false)) (flag (set (set flags i false) i stays)) i h' tried.trying
              out others after (λ on. one (sym here ∙ on)) (λ off. none (sym here ∙ off));
        }
      where
        after : (j : ℕ) → (j ≡ i → ⊥) → flag (set (set flags i false) i stays) j ≡ flag flags j
        after j q = get_or-set_other (set flags i false) i j stays false q ∙ others j q

        here : flag (set (set flags i false) i stays) i ≡ stays
        here = get_or-set_same (set flags i false) i stays false (let same = length-set flags i false in let l = inside in omega arith)

-- what settling some bounds gives says whether they admit a timetable
module _ (E : Enough) (n source : ℕ) (bs : List BoundModel) where
  pub one_of : (r : Option (List ℤ)) → Solves E n source bs r → is_some r ≡ true → (t : Timetable) × KeepsAll E bs t
  one_of (Some p) at _ = (times p, at.places.eligible.keeps)
  one_of None none e = absurd (false≢true e)

  pub none_of : (r : Option (List ℤ)) → Solves E n source bs r → is_some r ≡ false → Contradictory E bs
  none_of (Some p) at e = absurd (false≢true (sym e))
  none_of None none _ = none

-- where there is a bound, there is an event
pub some_event : (n : ℕ) (bounds : List Bound) → IsSheet 64 delay_limit n (map bound_of bounds) → (i : ℕ) → i < length bounds → 0 < n
some_event n bounds sheet i h =
    let to = (All-get_or (BoundWithin n delay_limit) (map bound_of bounds) i no_bound (simp length-map h) sheet.bounds).0 in omega arith
