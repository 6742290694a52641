-- A test that antt computes of a sheet that is written out: that flags are its knot.
use Rattle.std.proofs.Common.{◌≡◌, ℕ, zero, suc, ◌<◌, Bool, true, false, not, ◌&&◌, ◌||◌, ltb, List, [], length, get_or, ℤ, inl, inr, arith}
use Rattle.std.proofs.lemmas.Bool.{and_parts, and_from, or_cases, or_left, or_right, both_ways, not-true, ltb-true, lt-ltb}
use Rattle.rules.specs.Laws.{Admits, Enough, Laws}
use Rattle.timing.specs.Model.{BoundModel}
use Rattle.timing.specs.Timetables.{times, Keeps}
use Rattle.timing.specs.Knots.{no_bound, those, AdmitOne, AdmitNone, Remaining, Knot}
use Rattle.timing.proofs.Pigeonhole.{below_suc}
use Rattle.timing.proofs.Those.{those_out, those_in}
use Rattle.timing.proofs.Certificates.{keeps_each, keeps_from, shows_contradictory, contradictory_by}

-- what shows the outcome of the trial of a bound: a timetable for those that remain, or an order in which they sink
pub data Trial : Type 0 where
  admits : List ℤ → Trial
  sinks : List ℕ → Trial

abbrev pub remains : (ℕ → Bool) → ℕ → ℕ → Bool
remains knot i j = (ltb j i && knot j) || ltb i j

abbrev pub shows_trial : Enough → List BoundModel → (ℕ → Bool) → ℕ → Trial → Bool
shows_trial E bs knot i (admits ts) = knot i && keeps_each E (those (remains knot i) bs) (times ts)
shows_trial E bs knot i (sinks order) = not (knot i) && shows_contradictory E (those (remains knot i) bs) order

-- the trials of the bounds below n
abbrev pub shows_trials : Enough → List BoundModel → (ℕ → Bool) → List Trial → ℕ → Bool
shows_trials E bs knot trials zero = true
shows_trials E bs knot trials (suc n) = shows_trial E bs knot n (get_or trials n (admits [])) && shows_trials E bs knot trials n

abbrev pub shows_knot : Enough → List BoundModel → (ℕ → Bool) → List Trial → Bool
shows_knot E bs knot trials = shows_trials E bs knot trials (length bs)

remains_out : (knot : ℕ → Bool) (i j : ℕ) → remains knot i j ≡ true → Remaining knot i j
remains_out knot i j h =
    elim (or_cases (ltb j i && knot j) _ h) [
      | inl r ↦ (let w = and_parts (ltb j i) _ r in inl (ltb-true j i w.0, w.1))
      | inr r ↦ inr (ltb-true i j r)
    ]

remains_in : (knot : ℕ → Bool) (i j : ℕ) → Remaining knot i j → remains knot i j ≡ true
remains_in knot i j (inl r) = or_left _ _ (and_from _ _ (lt-ltb j i r.0) r.1)
remains_in knot i j (inr r) = or_right _ _ (lt-ltb i j r)

trial_at : (E : Enough) (bs : List BoundModel) (knot : ℕ → Bool) (trials : List Trial) (n : ℕ) → shows_trials E bs knot trials n ≡ true
    → (i : ℕ) → i < n → shows_trial E bs knot i (get_or trials i (admits [])) ≡ true
trial_at E bs knot trials zero h = λ i l. absurd (omega arith)
trial_at E bs knot trials (suc n) h =
    let w = and_parts (shows_trial E bs knot n (get_or trials n (admits []))) _ h in
    below_suc (λ i. shows_trial E bs knot i (get_or trials i (admits [])) ≡ true) n (trial_at E bs knot trials n w.1) w.0

module _ {A : Admits} {E : Enough} (laws : Laws A E) (bs : List BoundModel) (knot : ℕ → Bool) where
  stays_by : (i : ℕ) (trial : Trial) → shows_trial E bs knot i trial ≡ true → knot i ≡ true → AdmitOne E bs (Remaining knot i)
  stays_by i (admits ts) h k = (
    times ts,
    λ j l r. those_out (Keeps E (times ts)) (remains knot i) bs no_bound (keeps_from E (those (remains knot i) bs) (times ts) (and_parts (knot i) _ h).1) j l
        (remains_in knot i j r),
  )
  stays_by i (sinks order) h k = absurd (both_ways (knot i) (not-true _ (and_parts (not (knot i)) _ h).0) k)

  goes_by : (i : ℕ) (trial : Trial) → shows_trial E bs knot i trial ≡ true → knot i ≡ false → AdmitNone E bs (Remaining knot i)
  goes_by i (admits ts) h k t keeps = both_ways (knot i) k (and_parts (knot i) _ h).0
  goes_by i (sinks order) h k t keeps =
      contradictory_by laws (those (remains knot i) bs) order (and_parts (not (knot i)) _ h).1 t
      (those_in (Keeps E t) (remains knot i) bs no_bound (λ j l r. keeps j l (remains_out knot i j r)))

  pub knot_by : (trials : List Trial) → shows_knot E bs knot trials ≡ true → Knot E bs knot
  knot_by trials h =
      let at = trial_at E bs knot trials (length bs) h in
      record {
        stays = λ i l. stays_by i (get_or trials i (admits [])) (at i l);
        goes = λ i l. goes_by i (get_or trials i (admits [])) (at i l);
      }
