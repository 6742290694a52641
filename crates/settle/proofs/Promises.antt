-- Where what settling found is right, the promise is kept.
use Rattle.std.proofs.Common.{◌≡◌, ℕ, ◌<◌, Bool, true, false, ltb, ◌⊎◌, List, length, get_or, ℤ, pos, ◌≤ℤ◌, Some, None, Ok, Err, Result, refl, ap, ◌∙◌, inl, inr, arith, lit≤}
use Rattle.std.proofs.lemmas.Int.{ints}
use Rattle.std.proofs.lemmas.Bool.{cond-true, lt-ltb}
use Rattle.rules.specs.Laws.{Admits, Enough, Laws}
use Rattle.timing.specs.Limits.{delay_limit}
use Rattle.timing.specs.Model.{IsSheet}
use Rattle.timing.specs.Timetables.{Timetable, times, Contradictory}
use Rattle.timing.specs.Places.{span, Open, separation}
use Rattle.timing.specs.Knots.{Knot}
use Rattle.timing.proofs.Keeping.{choice}
use Rattle.timing.proofs.Statements.{separation_is, far_places_are_open, near_places_are_exact, knot_is_minimal}
use Rattle.sheet.specs.Plain.{PlainSheet}
use Rattle.sheet.specs.declared.fault.Refusal.{Refusal}
use Rattle.sheet.specs.declared.fault.Refusal.TheVariants.{Contradictory as IsContradictory}
use Rattle.settle.specs.declared.reading.Reading.{Reading}
use Rattle.settle.specs.declared.settled.Found.{Found}
use Rattle.settle.specs.declared.settled.Found.TheVariants.{NoSource, Placed, Knotted}
use Rattle.settle.specs.Held.{events, reading_of, read_held, knot_held}
use Rattle.settle.specs.Meaning.{PlacesFrom, Right}
use Rattle.settle.specs.Promise.{KeepsFrom, LaterThanAny, SeparationRead, OpenRead, SaidYes, Promise}

-- an answer is not also a refusal
pub not_both : {X F : Type 0} (r : Result X F) (x : X) (f : F) → r ≡ Ok x → r ≡ Err f → ⊥
not_both r x f p q = let z : ◌≡◌ {A = ℕ} 0 1 = cc in omega arith

same_reading : (r : Result Reading Refusal) (x y : Reading) → r ≡ Ok x → r ≡ Ok y → x ≡ y
same_reading r x y p q = cc

module _ {A : Admits} {E : Enough} (laws : Laws A E) (s : PlainSheet) (sheet : IsSheet 64 delay_limit (events s) s.bounds)
    (source : ℕ) (inside : source < events s) where
  -- where there are places
  module _ (places : List ℤ) (is : PlacesFrom E s source (times places)) where
    abbrev p : Timetable
    p = times places

    read_is : (e : ℕ) → e < events s → read_held s (Placed places) e ≡ Ok (reading_of p e)
    read_is e he = cond-true (ltb e (events s)) _ _ (lt-ltb e (events s) he)

    separation-read : (e : ℕ) → e < events s → (v : ℤ) → SeparationRead (read_held s (Placed places)) e v → separation delay_limit p e ≡ Some v
    separation-read e he v r =
        ap (λ (x : Reading). x.separation) (same_reading (read_held s (Placed places) e) (reading_of p e) r.0 (read_is e he) r.1) ∙ r.2

    keeps_from : KeepsFrom E s.bounds source p
    keeps_from = record { keeps = is.eligible.keeps; starts = is.eligible.starts }

    not-later : (e : ℕ) → e < events s → (v : ℤ) → separation delay_limit p e ≡ Some v → (t : Timetable) → KeepsFrom E s.bounds source t → t e ≤ℤ v
    not-later e he v q t k =
        (near_places_are_exact 64 (lit≤ tt) A E laws delay_limit (events s) s.bounds sheet source inside p is e he v q).2 t k.keeps k.starts

    later : (e : ℕ) → e < events s → Open delay_limit p e → LaterThanAny E s.bounds source e
    later e he far z =
        let r = far_places_are_open 64 (lit≤ tt) A E laws delay_limit (events s) s.bounds sheet source inside p is e he far z in
        (r.0, record { keeps = r.1; starts = r.2 }, r.3)

    two_ways : (e : ℕ) → (Open delay_limit p e × (separation delay_limit p e ≡ None)) ⊎ ((p e ≤ℤ span delay_limit) × (separation delay_limit p e ≡ Some (p e)))
    two_ways e = choice (span delay_limit) (p e) None (Some (p e))

    open-later : (e : ℕ) → e < events s → OpenRead (read_held s (Placed places)) e → LaterThanAny E s.bounds source e
    open-later e he r = go (two_ways e)
      where
        none : separation delay_limit p e ≡ None
        none = ap (λ (x : Reading). x.separation) (same_reading (read_held s (Placed places) e) (reading_of p e) r.0 (read_is e he) r.1) ∙ r.2

        go : (Open delay_limit p e × (separation delay_limit p e ≡ None)) ⊎ ((p e ≤ℤ span delay_limit) × (separation delay_limit p e ≡ Some (p e)))
            → LaterThanAny E s.bounds source e
        go (inl w) = later e he w.0
        go (inr w) = absurd (let q = none in let q' = w.1 in let z : ◌≡◌ {A = ℕ} 0 1 = cc in omega arith)

    later-open : (e : ℕ) → e < events s → LaterThanAny E s.bounds source e → OpenRead (read_held s (Placed places)) e
    later-open e he any =
        elim (two_ways e) [
          | inl w ↦ (reading_of p e, read_is e he, w.1)
          | inr w ↦ absurd (let r = any (p e) in omega (arith, ints, r.2, not-later e he (p e) w.1 r.0 r.1))
        ]

    placed-promise : Promise E s source (read_held s (Placed places)) (knot_held s (Placed places))
    placed-promise =
        record {
          never_later = λ e he v r. not-later e he v (separation-read e he v r);
          attained = λ t k. (p, keeps_from, λ e he. ((reading_of p e, read_is e he, refl), λ v r. (separation_is delay_limit p e v (separation-read e he v r)).0));
          open_exactly = λ e he. (open-later e he, later-open e he);
          contradiction_exactly = λ e he. (
            λ q. absurd (not_both (read_held s (Placed places) e) (reading_of p e) IsContradictory (read_is e he) q),
            λ none. absurd (none p is.eligible.keeps),
          );
          knot_contradictory = λ none. absurd (none p is.eligible.keeps);
          knot_minimal = λ none. absurd (none p is.eligible.keeps);
        }

  -- where there is a knot
  module _ (flags : List Bool) (none : Contradictory E s.bounds) (is : Knot E s.bounds (λ i. get_or flags i false)) where
    refused_is : (e : ℕ) → e < events s → read_held s (Knotted flags) e ≡ Err IsContradictory
    refused_is e he = cond-true (ltb e (events s)) _ _ (lt-ltb e (events s) he)

    knot_answer : (i : ℕ) → i < length s.bounds → knot_held s (Knotted flags) i ≡ Ok (get_or flags i false)
    knot_answer i hi = cond-true (ltb i (length s.bounds)) _ _ (lt-ltb i (length s.bounds) hi)

    flagged : (i : ℕ) → i < length s.bounds → SaidYes (knot_held s (Knotted flags)) i → get_or flags i false ≡ true
    flagged i hi q = let r = knot_answer i hi in cc

    says_yes : (i : ℕ) → i < length s.bounds → get_or flags i false ≡ true → SaidYes (knot_held s (Knotted flags)) i
    says_yes i hi q = knot_answer i hi ∙ ap Ok q

    knotted_promise : Promise E s source (read_held s (Knotted flags)) (knot_held s (Knotted flags))
    knotted_promise =
        let least = knot_is_minimal E s.bounds (λ i. get_or flags i false) none is in
        record {
          never_later = λ e he v r. absurd (not_both (read_held s (Knotted flags) e) r.0 IsContradictory r.1 (refused_is e he));
          attained = λ t k. absurd (none t k.keeps);
          open_exactly = λ e he. (
            λ r. absurd (not_both (read_held s (Knotted flags) e) r.0 IsContradictory r.1 (refused_is e he)),
            λ any. let r = any (pos 0) in absurd (none r.0 r.1.keeps),
          );
          contradiction_exactly = λ e he. (λ _. none, λ _. refused_is e he);
          knot_contradictory = λ _ t keeps. least.0 t (λ i hi q. keeps i hi (says_yes i hi q));
          knot_minimal = λ _ i hi q.
              let one = least.1 i hi (flagged i hi q) in
              (one.0, λ j hj r. one.1 j hj (flagged j hj r.0, r.1));
        }

  pub promise_from : (found : Found) → Right E s source found → Promise E s source (read_held s found) (knot_held s found)
  promise_from NoSource right = absurd (omega arith)
  promise_from (Placed places) right = placed-promise places right.1
  promise_from (Knotted flags) right = knotted_promise flags right.1 right.2
