-- A bound that takes part, as the program meets it, and what becomes of a phase when it lowers its event.
use Rattle.std.proofs.Common.{◌≡◌, ℕ, ◌<◌, ◌≤◌, true, false, ◌⊎◌, List, map, length, get_or, take, set, ℤ, pos, ◌+ℤ◌, ◌<ℤ◌, sym, ap, ◌∙◌, subst, ap₂, inl, inr, arith}
use lib.Signed.{le_z}
use Rattle.std.specs.List.{ContainsAt as Has, AllByRecursion}
use Rattle.std.proofs.ByRecursion.{All-get_or}
use Rattle.std.proofs.lemmas.List.{get_or-set_same, get_or-set_other, length-set, length-map, get_or-map}
use Rattle.std.proofs.lemmas.Int.{ints, by_lt_z}
use Rattle.std.proofs.lemmas.Bool.{cases_eq}
use Rattle.rules.specs.declared.RuleSet.{Ghosts}
use Rattle.rules.specs.Laws.{Admits, Laws}
use Rattle.timing.specs.declared.bound.Bound.{Bound}
use Rattle.timing.specs.declared.bound.Term.{Term}
use Rattle.timing.specs.Bounds.{bound_of, term_of}
use Rattle.timing.specs.Limits.{delay_limit}
use Rattle.timing.specs.Model.{TermModel, BoundModel, TermWithin, BoundWithin}
use Rattle.timing.specs.Timetables.{times, Contradictory}
use Rattle.timing.specs.Knots.{no_bound}
use Rattle.timing.specs.Rise.{phase_sum, Permits, Phase, Rising, room}
use Rattle.timing.proofs.Keeping.{all_any, suffice_more}
use Rattle.timing.proofs.Rise.{refused_contradictory, phase_lower, not_below}
use Rattle.timing.proofs.Room.{room_lt}
use Rattle.timing.proofs.Those.{those_has, all-those}
use Rattle.solver.specs.declared.task.Task.{Task}
use Rattle.solver.specs.Tasks.{flag, InRange, Summable}
use Rattle.solver.specs.Asked.{asked}
use Rattle.solver.specs.Permitted.{LatestTime}
use Rattle.solver.proofs.Terms.{Tally, Formed, bound_with, term_at_lem, tally_end, latest-admitted, latest_permitted, latest_last, none-refused}
use Rattle.solver.proofs.Passes.{bound_at}

-- the fields that the program reads of the bound at i
pub bound_is : (bounds : List Bound) (i : ℕ) (b : Bound) (to kind k : ℕ) (ts : List Term) → i < length bounds → b ≡ get_or bounds i b
    → to ≡ (bound_of b).to → kind ≡ (bound_of b).kind → k ≡ (bound_of b).k → map term_of ts ≡ (bound_of b).terms → bound_at bounds i ≡ bound_with to kind k ts
bound_is bounds i b to kind k ts h is et ek el es =
    get_or-map bound_of bounds i b no_bound h ∙ ap bound_of (sym is) ∙ sym (same et ek el es)
  where
    same : to ≡ (bound_of b).to → kind ≡ (bound_of b).kind → k ≡ (bound_of b).k → map term_of ts ≡ (bound_of b).terms → bound_with to kind k ts ≡ bound_of b
    same p q r s =
        ap₂ (λ (a c : ℕ). record { to = a; kind = c; k = k; terms = map term_of ts }) p q
        ∙ ap₂ (λ (l : ℕ) (ms : List TermModel). record { to = (bound_of b).to; kind = (bound_of b).kind; k = l; terms = ms }) r s

-- a time of the sheet is in range
abbrev pub TimesInRange : ℕ → List ℤ → Type 0
TimesInRange n ts = (e : ℕ) → e < n → InRange (times ts e)

-- the bound i takes part: it is b, among the events of the sheet
pub record Met {R : Type 0} {G : Ghosts R} (k : Task R G) (i : ℕ) (b : BoundModel) : Type 0 where
  pub is : bound_at k.sheet.now.bounds.now i ≡ b
  pub has : Has (asked k).bounds b
  pub within : BoundWithin k.sheet.now.events delay_limit b
  pub few : k.sheet.now.events ≤ 64

module _ {R : Type 0} {G : Ghosts R} (k : Task R G) where
  pub within-those : AllByRecursion (BoundWithin k.sheet.now.events delay_limit) (asked k).bounds
  within-those =
      all-those (BoundWithin k.sheet.now.events delay_limit) (flag k.chosen.now) (map bound_of k.sheet.now.bounds.now) k.sheet.now.sheet.bounds

  pub met : (i : ℕ) (b : BoundModel) → i < length k.sheet.now.bounds.now → flag k.chosen.now i ≡ true → bound_at k.sheet.now.bounds.now i ≡ b → Met k i b
  met i b h on is =
      let bs = map bound_of k.sheet.now.bounds.now in
      let h' : i < length bs = simp length-map h in
      record {
        is = is;
        has = subst (Has (asked k).bounds) is (those_has (flag k.chosen.now) bs no_bound i h' on);
        within = subst (BoundWithin k.sheet.now.events delay_limit) is
            (All-get_or (BoundWithin k.sheet.now.events delay_limit) bs i no_bound h' k.sheet.now.sheet.bounds);
        few = k.sheet.now.sheet.few;
      }

  -- the program can form the sum of each term of such a bound
  pub summable : (i to kind n : ℕ) (ts : List Term) → Met k i (bound_with to kind n ts) → (x : List ℤ) → TimesInRange k.sheet.now.events x
      → (j : ℕ) (d : Term) → j < length ts → Summable x (term_of (get_or ts j d))
  summable i to kind n ts m x range j d h =
      let few = m.few in
      let w : TermWithin k.sheet.now.events delay_limit (term_of (get_or ts j d)) = term_at_lem (TermWithin k.sheet.now.events delay_limit) ts j d h m.within.1 in
      ((omega arith, w.1, w.2), range (get_or ts j d).from w.0)

  module _ (x : List ℤ) (rising : Rising (asked k) (times x)) where
    pub rising_range : TimesInRange k.sheet.now.events x
    rising_range e h = (rising.low e h, rising.high e h)

    pub phase_range : (y : List ℤ) → Phase (asked k) (times x) (times y) → TimesInRange k.sheet.now.events y
    phase_range y phase e h = (omega (arith, ints, rising.low e h, phase.low e h), phase.high e h)

-- what the phase becomes
pub record Lowered {R : Type 0} {G : Ghosts R} (k : Task R G) (x y y' : List ℤ) : Type 0 where
  pub long : length y' ≡ 64
  pub stands : Phase (asked k) (times x) (times y')
  pub less : room (times x) (times y') k.sheet.now.events < room (times x) (times y) k.sheet.now.events

module _ {R : Type 0} {G : Ghosts R} (k : Task R G) {A : Admits} (laws : Laws A (asked k).meaning) (x y : List ℤ) where
  -- v is the latest time that the bound permits, and it does not permit TO's time in y
  module _ (phase : Phase (asked k) (times x) (times y)) (long : length y ≡ 64) (i : ℕ) (b : BoundModel) (m : Met k i b)
      (ok : A b.kind b.k (length b.terms) ≡ true) (v w : ℤ) (is : w ≡ v) (short : Permits (asked k) (times x) (times y) b (times y b.to) → ⊥)
      (permits : Permits (asked k) (times x) (times y) b v) (last : Permits (asked k) (times x) (times y) b (v +ℤ pos 1) → ⊥) where
    earlier : v <ℤ times y b.to
    earlier =
        by_lt_z v (times y b.to) (λ lt. lt)
        (λ ge. absurd (short (suffice_more laws b (λ t. le_z v (phase_sum (times x) (times y) b.to t)) (λ t. le_z (times y b.to) (phase_sum (times x) (times y) b.to t))
        (all_any _ b.terms (λ t a. grind (arith, ints))) permits)))

    inside : b.to < 64
    inside = let few = m.few in let to = m.within.0 in omega arith

    here : times (set y b.to w) b.to ≡ v
    here = get_or-set_same y b.to w (pos 0) (let to = inside in omega arith) ∙ is

    written : (e : ℕ) → (times (set y b.to w) e ≡ times y e) ⊎ ((b.to ≡ e) × (times (set y b.to w) e ≡ v))
    written e =
        elim (cases_eq e b.to) [
          | inl q ↦ inr (sym q, ap (times (set y b.to w)) q ∙ here)
          | inr q ↦ inl (get_or-set_other y b.to e w (pos 0) q)
        ]

    lowered : Lowered k x y (set y b.to w)
    lowered =
        let lt = earlier in
        let low = not_below (asked k) laws (within-those k) (times x) (times y) phase b m.has ok v last in
        record {
          long = length-set y b.to w ∙ long;
          stands = phase_lower (asked k) laws (within-those k) (times x) (times y) phase b m.has ok v last (omega (arith, ints)) (times (set y b.to w)) written;
          less = room_lt (times x) (times y) (times x) (times (set y b.to w)) k.sheet.now.events
              (λ e h. (
                omega (arith, ints),
                elim (written e) [
                  | inl q ↦ omega (arith, ints)
                  | inr q ↦ (let d : times y b.to ≡ times y e = ap (times y) q.0 in omega (arith, ints))
                ],
              ))
              b.to m.within.0 (omega (arith, ints, here)) (inr (omega (arith, ints, here)));
        }

  -- the program has all sums of the bound, and the latest time that it permits by them
  module _ (phase : Phase (asked k) (times x) (times y)) (long : length y ≡ 64) (i to kind n : ℕ) (ts : List Term) (m : Met k i (bound_with to kind n ts))
      (j mask : ℕ) (sums : List ℤ) (tally : Tally (asked k).meaning kind n ts (λ t. le_z (times y to) (phase_sum (times x) (times y) to t)) j mask)
      (formed : Formed (phase_sum (times x) (times y) to) ts j sums) (left : length ts ≤ j) (end : j ≤ length ts) where
    pub lowered-to : (v w : ℤ) → w ≡ v → LatestTime (asked k).meaning kind n (take (length ts) sums) v → Lowered k x y (set y to w)
    lowered-to v w is latest =
        lowered phase long i (bound_with to kind n ts) m (latest-admitted (phase_sum (times x) (times y) to) ts laws to kind n j sums formed left end v latest) v w is
        (tally_end laws to kind n ts (λ t. le_z (times y to) (phase_sum (times x) (times y) to t)) j mask tally left)
        (latest_permitted (phase_sum (times x) (times y) to) ts laws to kind n j sums formed left end v latest)
        (latest_last (phase_sum (times x) (times y) to) ts laws to kind n j sums formed left end v latest)

    -- or the rules refuse it
    pub refused-to : A kind n (length (take (length ts) sums)) ≡ false → Contradictory (asked k).meaning (asked k).bounds
    refused-to out =
        refused_contradictory laws (asked k).bounds (bound_with to kind n ts) m.has
        (none-refused (phase_sum (times x) (times y) to) ts laws to kind n j sums formed left end out)

-- the next round begins at any bound
pub next_round : {R : Type 0} {G : Ghosts R} {k : Task R G} {x y y' : List ℤ} (count first : ℕ) → first ≤ count → Lowered k x y y'
    → (length y' ≡ 64) × (first ≤ count) × Phase (asked k) (times x) (times y')
next_round count first h low = (low.long, h, low.stands)
