-- The rise ends at the places, or shows that there is no timetable.
use Rattle.std.proofs.Common.{◌≡◌, ℕ, zero, suc, ◌<◌, Bool, true, false, cond, ◌&&◌, ◌⊎◌, List, length, ℤ, pos, ◌+ℤ◌, neg_ℤ, ◌≤ℤ◌, ◌<ℤ◌, sym, ap, ◌∙◌, inl, inr, arith}
use lib.Signed.{lt_z, le_z}
use Rattle.std.specs.List.{ContainsAt as Has, AllByRecursion}
use Rattle.std.proofs.lemmas.Int.{ints, by_lt_z}
use Rattle.std.proofs.ByRecursion.{All-weaker, all-has}
use Rattle.std.proofs.lemmas.Bool.{and_parts, and_from, both_ways}
use Rattle.rules.specs.Laws.{Admits, Enough, Laws}
use Rattle.rules.proofs.Masks.{mask_full}
use Rattle.timing.specs.Model.{TermModel, BoundModel, TermWithin, BoundWithin, IsSheet}
use Rattle.timing.specs.Timetables.{Timetable, allows, Suffice, Keeps, KeepsAll, Contradictory}
use Rattle.timing.specs.Places.{far_mark, span}
use Rattle.timing.specs.Rise.{Task, EligibleFor, PlacesOf, join, phase_sum, Permits, Lifted, Phase, Quiet, Rising, Summit}
use Rattle.timing.proofs.Keeping.{all_any, all_both, choice, join_is, le_true, true_le, allow, allowed, suffice_more, keeps_more, keeps_within, keeps_like}
use Rattle.timing.proofs.Range.{top, low-all, none_eligible}

-- a bound that the rules do not admit is never kept
pub refused_contradictory : {A : Admits} {E : Enough} → Laws A E → (bs : List BoundModel) (b : BoundModel) → Has bs b
    → A b.kind b.k (length b.terms) ≡ false → Contradictory E bs
refused_contradictory {A} {E} laws bs b has refused t keeps =
    both_ways _ (laws.refused b.kind b.k (length b.terms) _ refused) (all-has (Keeps E t) bs b keeps has)

-- all terms of an admitted bound are enough
suffice_all : {A : Admits} {E : Enough} → Laws A E → (b : BoundModel) (p : TermModel → Bool) → A b.kind b.k (length b.terms) ≡ true
    → AllByRecursion (λ m. p m ≡ true) b.terms → Suffice E b p
suffice_all laws b p ok h = rw (mask_full p b.terms h) (laws.full b.kind b.k (length b.terms) ok)

phase_is : (x y : Timetable) (to : ℕ) (m : TermModel)
    → (((x m.from +ℤ m.delay) <ℤ x to) × (phase_sum x y to m ≡ x to)) ⊎ ((x to ≤ℤ (x m.from +ℤ m.delay)) × (phase_sum x y to m ≡ y m.from +ℤ m.delay))
phase_is x y to m = choice (x m.from +ℤ m.delay) (x to) (x to) (y m.from +ℤ m.delay)

module _ {A : Admits} (k : Task) (laws : Laws A k.meaning) (within : AllByRecursion (BoundWithin k.events k.limit) k.bounds) where
  -- an event that may be the source is then at 0
  or_zero : {P : Type 0} (t : Timetable) (e : ℕ) → t k.source ≡ pos 0 → P ⊎ (k.source ≡ e) → P ⊎ (t e ≡ pos 0)
  or_zero t e starts (inl p) = inl p
  or_zero t e starts (inr q) = inr (sym (ap t q) ∙ starts)

  -- a phase begins with every event but the source at the far mark
  pub phase_start : (x y : Timetable) → x k.source ≡ pos 0 → ((e : ℕ) → e < k.events → x e ≤ℤ far_mark k.limit)
      → y k.source ≡ pos 0 → ((e : ℕ) → e < k.events → (y e ≡ far_mark k.limit) ⊎ (k.source ≡ e)) → Phase k x y
  phase_start x y base high starts is =
      record {
        base = base;
        starts = starts;
        low = λ e h. omega (arith, ints, or_zero x e base (is e h), or_zero y e starts (is e h), high e h);
        high = λ e h. omega (arith, ints, or_zero y e starts (is e h));
        top = λ u lift e h. omega (arith, ints, or_zero u e lift.starts (is e h), or_zero y e starts (is e h), lift.high e h);
      }

  module _ (x y : Timetable) (phase : Phase k x y) (b : BoundModel) (has : Has k.bounds b) (ok : A b.kind b.k (length b.terms) ≡ true) where
    inside : BoundWithin k.events k.limit b
    inside = all-has (BoundWithin k.events k.limit) k.bounds b within has

    -- no sum is before TO's time in x, and so the latest time permitted is not
    pub not_below : (v : ℤ) → (Permits k x y b (v +ℤ pos 1) → ⊥) → x b.to ≤ℤ v
    not_below v last =
        by_lt_z v (x b.to)
        (λ lt. absurd (last (suffice_all laws b _ ok (All-weaker (TermWithin k.events k.limit) _
        (λ m w. le_true (v +ℤ pos 1) (phase_sum x y b.to m) (omega (arith, ints, phase_is x y b.to m, phase.low m.from w.0))) b.terms inside.1))))
        (λ ge. ge)

    -- no lift passes it
    bounded : (v : ℤ) → (Permits k x y b (v +ℤ pos 1) → ⊥) → (u : Timetable) → Lifted k x u → u b.to ≤ℤ v
    bounded v last u lift =
        by_lt_z v (u b.to)
        (λ lt. absurd (last (suffice_more laws b (λ m. allows x b.to m && allows u b.to m) (λ m. le_z (v +ℤ pos 1) (phase_sum x y b.to m))
        (All-weaker (TermWithin k.events k.limit) _
        (λ m w a. let p = and_parts (allows x b.to m) _ a in
        le_true (v +ℤ pos 1) (phase_sum x y b.to m)
        (omega (arith, ints, allowed x b.to m p.0, allowed u b.to m p.1, phase_is x y b.to m, phase.top u lift m.from w.0)))
        b.terms inside.1)
        (all-has _ k.bounds b lift.lifts has (let z = not_below v last in omega (arith, ints))))))
        (λ ge. ge)

    -- one lowering
    pub phase_lower : (v : ℤ) → (Permits k x y b (v +ℤ pos 1) → ⊥) → v ≤ℤ y b.to
        → (y' : Timetable) → ((e : ℕ) → (y' e ≡ y e) ⊎ ((b.to ≡ e) × (y' e ≡ v))) → Phase k x y'
    phase_lower v last hv y' is =
        let above : x b.to ≤ℤ v = not_below v last in
        let base : x k.source ≡ pos 0 = phase.base in
        let starts : y k.source ≡ pos 0 = phase.starts in
        record {
          base = base;
          starts = omega (arith, ints, at x k.source, at y k.source);
          low = λ e h. omega (arith, ints, at x e, phase.low e h);
          high = λ e h. omega (arith, ints, at y e, phase.high e h);
          top = λ u lift e h. omega (arith, ints, at u e, phase.top u lift e h, bounded v last u lift);
        }
      where
        at : (t : Timetable) (e : ℕ) → (y' e ≡ y e) ⊎ ((t b.to ≡ t e) × (y' e ≡ v))
        at t e = elim (is e) [ inl q ↦ inl q | inr q ↦ inr (ap t q.0, q.1) ]

  -- the rise begins with every event but the source as low as any need be
  pub rising_start : (x : Timetable) → x k.source ≡ pos 0 → ((e : ℕ) → e < k.events → (x e ≡ neg_ℤ (span k.limit)) ⊎ (k.source ≡ e)) → Rising k x
  rising_start x starts is =
      record {
        starts = starts;
        low = λ e h. omega (arith, ints, or_zero x e starts (is e h));
        high = λ e h. omega (arith, ints, or_zero x e starts (is e h));
        joins = λ t eligible lo.
            all_both (BoundWithin k.events k.limit) (Keeps k.meaning t) (Keeps k.meaning (join t x))
            (keeps_like laws k.events k.limit t (join t x)
            (λ e h. omega (arith, ints, join_is t x e, lo e h, or_zero x e starts (is e h), or_zero t e eligible.starts (is e h))))
            k.bounds within eligible.keeps;
      }

  -- a phase that is over: for each bound the maximum at TO comes from t, from a lifted y, or from x as before
  pub risen : (x y : Timetable) → Rising k x → Phase k x y → AllByRecursion (Quiet k x y) k.bounds → Rising k y
  risen x y rising phase quiet =
      record {
        starts = phase.starts;
        low = λ e h. omega (arith, ints, rising.low e h, phase.low e h);
        high = phase.high;
        joins = λ t eligible lo.
            all_both (λ b. BoundWithin k.events k.limit b × Quiet k x y b) (λ b. Keeps k.meaning t b × Keeps k.meaning (join t x) b) (Keeps k.meaning (join t y))
            (λ b w keeps. joined t b w.0 w.1 keeps.0 keeps.1) k.bounds (all_both _ _ _ (λ b p q. (p, q)) k.bounds within quiet)
            (all_both _ _ _ (λ b p q. (p, q)) k.bounds eligible.keeps (rising.joins t eligible lo));
      }
    where
      joined : (t : Timetable) (b : BoundModel) → BoundWithin k.events k.limit b → Quiet k x y b → Keeps k.meaning t b → Keeps k.meaning (join t x) b
          → Keeps k.meaning (join t y) b
      joined t b w quiet kt kx =
          by_lt_z (t b.to) (y b.to)
          (λ lt. by_lt_z (x b.to) (y b.to)
          (λ lifted. suffice_more laws b (λ m. le_z (y b.to) (phase_sum x y b.to m)) (allows (join t y) b.to)
          (all_any _ b.terms (λ m a. allow (join t y) b.to m
          (omega (arith, ints, true_le (y b.to) (phase_sum x y b.to m) a, join_is t y b.to, join_is t y m.from, phase_is x y b.to m)))) quiet)
          (λ same. keeps_within laws k.events k.limit (join t x) (join t y) b w
          (λ m wm a. omega (arith, ints, join_is t y b.to, join_is t y m.from, join_is t x b.to, join_is t x m.from, phase.low b.to w.0, phase.low m.from wm.0)) kx))
          (λ ge. keeps_more laws t (join t y) b (λ m a. omega (arith, ints, join_is t y b.to, join_is t y m.from)) kt)

  -- a phase that lifted nothing: no eligible timetable is later than x
  module _ (x y : Timetable) (phase : Phase k x y) (still : (e : ℕ) → e < k.events → y e ≤ℤ x e) (t : Timetable) (eligible : EligibleFor k t) where
    -- where t is later than x by more than g, x rises by a tick
    abbrev lift : ℕ → Timetable
    lift g e = cond (lt_z (x e +ℤ pos g) (t e)) (x e +ℤ pos 1) (x e)

    lift_is : (g e : ℕ) → (((x e +ℤ pos g) <ℤ t e) × (lift g e ≡ x e +ℤ pos 1)) ⊎ ((t e ≤ℤ (x e +ℤ pos g)) × (lift g e ≡ x e))
    lift_is g e = choice (x e +ℤ pos g) (t e) (x e +ℤ pos 1) (x e)

    lifted : (g : ℕ) → ((e : ℕ) → e < k.events → t e ≤ℤ (x e +ℤ pos (suc g))) → Lifted k x (lift g)
    lifted g under =
        let starts : t k.source ≡ pos 0 = eligible.starts in
        let base : x k.source ≡ pos 0 = phase.base in
        record {
          starts = omega (arith, ints, lift_is g k.source);
          low = λ e h. omega (arith, ints, lift_is g e);
          high = λ e h. omega (arith, ints, lift_is g e, eligible.near e h, phase.low e h, phase.high e h);
          lifts = all_both (BoundWithin k.events k.limit) (Keeps k.meaning t) _
              (λ b w keeps rises. suffice_more laws b (allows t b.to) (λ m. allows x b.to m && allows (lift g) b.to m)
              (All-weaker (TermWithin k.events k.limit) _
              (λ m wm a. let p : t b.to ≤ℤ (t m.from +ℤ m.delay) = allowed t b.to m a in
              and_from (allows x b.to m) (allows (lift g) b.to m)
              (allow x b.to m (omega (arith, ints, lift_is g b.to, under m.from wm.0)))
              (allow (lift g) b.to m (omega (arith, ints, lift_is g b.to, lift_is g m.from, under m.from wm.0))))
              b.terms w.1)
              keeps)
              k.bounds within eligible.keeps;
        }

    down : (g : ℕ) → ((e : ℕ) → e < k.events → t e ≤ℤ (x e +ℤ pos g)) → (e : ℕ) → e < k.events → t e ≤ℤ x e
    down zero under = λ e h. omega (arith, ints, under e h)
    down (suc g) under = down g (λ e h. omega (arith, ints, lift_is g e, under e h, phase.top (lift g) (lifted g under) e h, still e h))

    pub none-later : (e : ℕ) → e < k.events → t e ≤ℤ x e
    none-later = let r = top (λ e. t e +ℤ neg_ℤ (x e)) k.events in down r.0 (λ e h. omega (arith, ints, r.1 e h))

  pub summit : (x y : Timetable) → Rising k x → Phase k x y → ((e : ℕ) → e < k.events → y e ≤ℤ x e) → Summit k x
  summit x y rising phase still = record { rising = rising; latest = none-later x y phase still }

  -- it keeps all bounds: it is the places
  pub places_at : (x : Timetable) → Summit k x → KeepsAll k.meaning k.bounds x → PlacesOf k x
  places_at x summit keeps =
      record { eligible = record { keeps = keeps; starts = summit.rising.starts; near = summit.rising.high }; latest = summit.latest }

-- it breaks one: there is no timetable
pub contradictory_at : {A : Admits} (k : Task) → Laws A k.meaning → IsSheet 64 k.limit k.events k.bounds → k.source < k.events
    → (x : Timetable) → Summit k x → (KeepsAll k.meaning k.bounds x → ⊥) → Contradictory k.meaning k.bounds
contradictory_at k laws sheet inside x summit breaks =
    none_eligible laws k.limit k.events k.bounds sheet k.source inside
    (λ t eligible.
    let r = low-all laws k.limit k.events k.bounds sheet k.source inside t eligible in
    breaks (all_both (BoundWithin k.events k.limit) (Keeps k.meaning (join r.0 x)) (Keeps k.meaning x)
    (keeps_like laws k.events k.limit (join r.0 x) x (λ e h. omega (arith, ints, join_is r.0 x e, summit.latest r.0 r.1 e h)))
    k.bounds sheet.bounds (summit.rising.joins r.0 r.1 r.2)))
