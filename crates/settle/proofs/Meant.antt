-- Where what settling found is right, the answers are the defined ones; and the definitions leave no choice.
use Rattle.std.proofs.Common.{◌≡◌, ℕ, ◌<◌, Bool, true, false, cond, ltb, length, get_or, ℤ, pos, Some, None, Ok, Err, Option, Result, sym, refl, ap, ◌∙◌, subst, inl, inr, arith, lit≤}
use lib.Signed.{le_z, lt_z}
use Rattle.std.proofs.lemmas.Int.{ints}
use Rattle.std.proofs.lemmas.Bool.{cond-true, cond-false, cond_both, lt-ltb, le-ltb, ltb-true, ltb-false}
use Rattle.rules.specs.declared.RuleSet.{Ghosts}
use Rattle.rules.specs.Laws.{Admits, Enough, Laws}
use Rattle.timing.specs.Limits.{delay_limit}
use Rattle.timing.specs.Model.{IsSheet}
use Rattle.timing.specs.Timetables.{Timetable, times, Contradictory}
use Rattle.timing.specs.Places.{span, separation}
use Rattle.timing.proofs.Keeping.{choice}
use Rattle.timing.proofs.Range.{place_tells}
use Rattle.timing.proofs.Statements.{separation_is, far_places_are_open, places_are_unique, knot_is_unique}
use Rattle.sheet.specs.Model.{sheet_of}
use Rattle.sheet.specs.Plain.{PlainSheet}
use Rattle.sheet.specs.declared.drawn.Drawn.{Drawn}
use Rattle.sheet.proofs.Standing.{sheet_is}
use Rattle.sheet.specs.declared.fault.Refusal.{Refusal}
use Rattle.sheet.specs.declared.fault.Refusal.TheVariants.{NoSuchSource, NoSuchEvent, NoSuchBound, Contradictory as IsContradictory, NotContradictory}
use Rattle.settle.specs.declared.reading.Reading.{Reading}
use Rattle.settle.specs.declared.settled.Found.{Found}
use Rattle.settle.specs.declared.settled.Found.TheVariants.{NoSource, Placed, Knotted}
use Rattle.settle.specs.Held.{events, read_held, knot_held, within, verdict_on}
use Rattle.settle.specs.declared.settled.Settled.{Settled}
use Rattle.settle.specs.Model.{standing, read_of, knot_of, verdict_of, HoldsRight}
use Rattle.settle.proofs.Witness.{right_known}
use Rattle.settle.specs.Meaning.{PlacesFrom, Consistent, Right, Unread, Reads, Knots, Met, Broken, Judges}

pub reads_from : (E : Enough) (s : PlainSheet) (source : ℕ) (found : Found) → Right E s source found → (e : ℕ) → Reads E s source e (read_held s found e)
reads_from E s source NoSource right e = right
reads_from E s source (Placed places) right e =
    cond_both (ltb e (events s)) _ _ (Reads E s source e)
    (λ q. (right.0, ltb-true e (events s) q, (times places, right.1, refl))) (λ q. (right.0, ltb-false e (events s) q))
reads_from E s source (Knotted flags) right e =
    cond_both (ltb e (events s)) _ _ (Reads E s source e)
    (λ q. (right.0, ltb-true e (events s) q, right.1)) (λ q. (right.0, ltb-false e (events s) q))

pub knots_from : (E : Enough) (s : PlainSheet) (source : ℕ) (found : Found) → Right E s source found → (i : ℕ) → Knots E s source i (knot_held s found i)
knots_from E s source NoSource right i = right
knots_from E s source (Placed places) right i = (right.0, (times places, right.1.eligible.keeps))
knots_from E s source (Knotted flags) right i =
    cond_both (ltb i (length s.bounds)) _ _ (Knots E s source i)
    (λ q. (right.0, right.1, ltb-true i (length s.bounds) q, ((λ j. get_or flags j false), right.2, refl)))
    (λ q. (right.0, right.1, ltb-false i (length s.bounds) q))

module _ {A : Admits} {E : Enough} (laws : Laws A E) (s : PlainSheet) (sheet : IsSheet 64 delay_limit (events s) s.bounds) (source : ℕ) where
  -- the verdict by the places: an open event passes any limit, and one with a separation stands at it
  judged : (p : Timetable) → source < events s → PlacesFrom E s source p → (to : ℕ) → to < events s → (most : ℤ)
      → Judges E s source to most (Ok (within most (separation delay_limit p to)))
  judged p inside is to l most = by (separation delay_limit p to) refl
    where
      limited : (v : ℤ) → separation delay_limit p to ≡ Some v → (b : Bool) → le_z v most ≡ b → Judges E s source to most (Ok b)
      limited v q true h =
          let r = separation_is delay_limit p to v q in (
            inside,
            l,
            (p, is.eligible.keeps),
            λ t keeps. omega (arith, ints, (place_tells laws delay_limit (events s) s.bounds sheet source inside p is to l v (omega (arith, ints))).0 (omega (arith, ints)) t keeps),
          )
      limited v q false h =
          let r = separation_is delay_limit p to v q in
          let starts : p source ≡ pos 0 = is.eligible.starts in
          (inside, l, (p, is.eligible.keeps, omega (arith, ints)))

      by : (o : Option ℤ) → separation delay_limit p to ≡ o → Judges E s source to most (Ok (within most o))
      by (Some v) q = limited v q (le_z v most) refl
      by None q =
          elim (choice (span delay_limit) (p to) None (Some (p to))) [
            | inl w ↦
                (let r = far_places_are_open 64 (lit≤ tt) A E laws delay_limit (events s) s.bounds sheet source inside p is to l w.0 most in
                (inside, l, (r.0, r.1, omega (arith, ints, r.2, r.3))))
            | inr w ↦ absurd (let q' = w.1 in let z : ◌≡◌ {A = ℕ} 0 1 = cc in omega arith)
          ]

  pub judges_from : (found : Found) → Right E s source found → (to : ℕ) (most : ℤ) → Judges E s source to most (verdict_on most (read_held s found to))
  judges_from NoSource right to most = right
  judges_from (Placed places) right to most =
      cond_both (ltb to (events s)) _ _ (λ r. Judges E s source to most (verdict_on most r))
      (λ q. judged (times places) right.0 right.1 to (ltb-true to (events s) q) most) (λ q. (right.0, ltb-false to (events s) q))
  judges_from (Knotted flags) right to most =
      cond_both (ltb to (events s)) _ _ (λ r. Judges E s source to most (verdict_on most r))
      (λ q. (right.0, ltb-true to (events s) q, right.1)) (λ q. (right.0, ltb-false to (events s) q))

-- so an answer of a settled sheet is the defined one, since what it holds is right
module _ {R : Type 0} {G : Ghosts R} (laws : (r : R) → Laws (G.admitted r) (G.suffices r)) (t : Settled R G) where
  pub holds_right : HoldsRight (G.suffices t.drawn.rules) t
  holds_right = right_known (laws t.drawn.rules) (standing t) (sheet_is t.drawn) t.source t.found t.right

  -- also for the sheet that it was settled from
  pub right_from : (d : Drawn R G) (source : ℕ) → t.drawn ≡ d → t.source ≡ source → Right (G.suffices d.rules) (sheet_of d) source t.found
  right_from d source moved from =
      subst (λ (x : Drawn R G). Right (G.suffices x.rules) (sheet_of x) source t.found) moved
      (subst (λ (k : ℕ). Right (G.suffices t.drawn.rules) (standing t) k t.found) from holds_right)

  pub reads_since : (e : ℕ) (r : Result Reading Refusal) → r ≡ read_of t e → Reads (G.suffices t.drawn.rules) (standing t) t.source e r
  reads_since e r q =
      let E = G.suffices t.drawn.rules in
      subst (Reads E (standing t) t.source e) (sym q) (reads_from E (standing t) t.source t.found holds_right e)

  pub knots_since : (i : ℕ) (r : Result Bool Refusal) → r ≡ knot_of t i → Knots (G.suffices t.drawn.rules) (standing t) t.source i r
  knots_since i r q =
      let E = G.suffices t.drawn.rules in
      subst (Knots E (standing t) t.source i) (sym q) (knots_from E (standing t) t.source t.found holds_right i)

  pub judges_since : (to : ℕ) (most : ℤ) (r : Result Bool Refusal) → r ≡ verdict_of t to most
      → Judges (G.suffices t.drawn.rules) (standing t) t.source to most r
  judges_since to most r q =
      subst (Judges (G.suffices t.drawn.rules) (standing t) t.source to most) (sym q)
      (judges_from (laws t.drawn.rules) (standing t) (sheet_is t.drawn) t.source t.found holds_right to most)

module _ (E : Enough) (s : PlainSheet) (source : ℕ) where
  -- the refusals of read exclude one another, and an answer excludes them
  unread_is : (e : ℕ) (f : Refusal) → Unread E s source e f → f ≡ cond (ltb source (events s)) (cond (ltb e (events s)) IsContradictory NoSuchEvent) NoSuchSource
  unread_is e NoSuchSource u = sym (cond-false (ltb source (events s)) _ _ (le-ltb source (events s) u))
  unread_is e NoSuchEvent u =
      sym (cond-true (ltb source (events s)) _ _ (lt-ltb source (events s) u.0) ∙ cond-false (ltb e (events s)) _ _ (le-ltb e (events s) u.1))
  unread_is e IsContradictory u =
      sym (cond-true (ltb source (events s)) _ _ (lt-ltb source (events s) u.0) ∙ cond-true (ltb e (events s)) _ _ (lt-ltb e (events s) u.1))
  unread_is e NoSuchBound u = absurd u
  unread_is e NotContradictory u = absurd u

  unread_inside : (e : ℕ) (f : Refusal) → source < events s → e < events s → Unread E s source e f → Contradictory E s.bounds
  unread_inside e NoSuchSource h k u = absurd (omega arith)
  unread_inside e NoSuchEvent h k u = absurd (omega arith)
  unread_inside e IsContradictory h k u = u.2
  unread_inside e NoSuchBound h k u = absurd u
  unread_inside e NotContradictory h k u = absurd u

  pub reads_unique : (e : ℕ) (r q : Result Reading Refusal) → Reads E s source e r → Reads E s source e q → r ≡ q
  reads_unique e (Ok x) (Ok y) a b =
      let same = places_are_unique E delay_limit (events s) source s.bounds a.2.0 b.2.0 a.2.1 b.2.1 e a.1 in
      let reading : ℤ → Reading = λ z. record { separation = cond (lt_z (span delay_limit) z) None (Some z); place = z } in
      ap Ok (a.2.2 ∙ ap reading same ∙ sym b.2.2)
  reads_unique e (Ok x) (Err g) a b = absurd (unread_inside e g a.0 a.1 b a.2.0 a.2.1.eligible.keeps)
  reads_unique e (Err f) (Ok y) a b = absurd (unread_inside e f b.0 b.1 a b.2.0 b.2.1.eligible.keeps)
  reads_unique e (Err f) (Err g) a b = ap Err (unread_is e f a ∙ sym (unread_is e g b))

  -- an answer of knot excludes its refusals, and these exclude one another
  not-refused : (i : ℕ) (f : Refusal) → source < events s → Contradictory E s.bounds → i < length s.bounds → Knots E s source i (Err f) → ⊥
  not-refused i NoSuchSource h none l k = omega arith
  not-refused i NotContradictory h none l k = none k.1.0 k.1.1
  not-refused i NoSuchBound h none l k = omega arith
  not-refused i NoSuchEvent h none l k = k
  not-refused i IsContradictory h none l k = k

  pub knots_unique : (i : ℕ) (r q : Result Bool Refusal) → Knots E s source i r → Knots E s source i q → r ≡ q
  knots_unique i (Ok x) (Ok y) a b =
      ap Ok (a.3.2 ∙ knot_is_unique E s.bounds a.3.0 b.3.0 a.3.1 b.3.1 i a.2 ∙ sym b.3.2)
  knots_unique i (Ok x) (Err g) a b = absurd (not-refused i g a.0 a.1 a.2 b)
  knots_unique i (Err f) (Ok y) a b = absurd (not-refused i f b.0 b.1 b.2 a)
  knots_unique i (Err f) (Err g) a b = ap Err (same f g a b)
    where
      same : (f g : Refusal) → Knots E s source i (Err f) → Knots E s source i (Err g) → f ≡ g
      same NoSuchSource NoSuchSource k l = refl
      same NoSuchSource NotContradictory k l = absurd (omega arith)
      same NoSuchSource NoSuchBound k l = absurd (omega arith)
      same NoSuchSource NoSuchEvent k l = absurd l
      same NoSuchSource IsContradictory k l = absurd l
      same NotContradictory NoSuchSource k l = absurd (omega arith)
      same NotContradictory NotContradictory k l = refl
      same NotContradictory NoSuchBound k l = absurd (l.1 k.1.0 k.1.1)
      same NotContradictory NoSuchEvent k l = absurd l
      same NotContradictory IsContradictory k l = absurd l
      same NoSuchBound NoSuchSource k l = absurd (omega arith)
      same NoSuchBound NotContradictory k l = absurd (k.1 l.1.0 l.1.1)
      same NoSuchBound NoSuchBound k l = refl
      same NoSuchBound NoSuchEvent k l = absurd l
      same NoSuchBound IsContradictory k l = absurd l
      same NoSuchEvent g k l = absurd k
      same IsContradictory g k l = absurd k

  -- a verdict on a need excludes the other and the refusals
  met_not_broken : (to : ℕ) (most : ℤ) → Met E s.bounds source to most → Broken E s.bounds source to most → ⊥
  met_not_broken to most met broken = omega (arith, ints, met broken.0 broken.1, broken.2)

  judges_consistent : (to : ℕ) (most : ℤ) (b : Bool) → Judges E s source to most (Ok b) → (source < events s) × (to < events s) × Consistent E s.bounds
  judges_consistent to most true j = (j.0, j.1, j.2)
  judges_consistent to most false j = (j.0, j.1, (j.2.0, j.2.1))

  judges_not_refused : (to : ℕ) (most : ℤ) (b : Bool) (f : Refusal) → Judges E s source to most (Ok b) → Unread E s source to f → ⊥
  judges_not_refused to most b f j u =
      let r = judges_consistent to most b j in
      unread_inside to f r.0 r.1 u r.2.0 r.2.1

  pub judges_unique : (to : ℕ) (most : ℤ) (r q : Result Bool Refusal) → Judges E s source to most r → Judges E s source to most q → r ≡ q
  judges_unique to most (Ok true) (Ok true) a b = refl
  judges_unique to most (Ok true) (Ok false) a b = absurd (met_not_broken to most a.3 b.2)
  judges_unique to most (Ok false) (Ok true) a b = absurd (met_not_broken to most b.3 a.2)
  judges_unique to most (Ok false) (Ok false) a b = refl
  judges_unique to most (Ok x) (Err g) a b = absurd (judges_not_refused to most x g a b)
  judges_unique to most (Err f) (Ok y) a b = absurd (judges_not_refused to most y f b a)
  judges_unique to most (Err f) (Err g) a b = ap Err (unread_is to f a ∙ sym (unread_is to g b))
