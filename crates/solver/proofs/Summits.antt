-- Between the phases, and where the rise has ended.
use Rattle.std.proofs.Common.{◌≡◌, ℕ, ◌<◌, List, map, length, ℤ, neg_ℤ, ◌≤ℤ◌, ◌<ℤ◌, subst, inl, arith}
use Rattle.std.specs.List.{AllByRecursion}
use Rattle.std.proofs.ByRecursion.{All-get_or}
use Rattle.std.proofs.lemmas.List.{length-map}
use Rattle.std.proofs.lemmas.Int.{ints}
use Rattle.rules.specs.declared.RuleSet.{Ghosts}
use Rattle.rules.specs.Laws.{Admits, Laws}
use Rattle.timing.specs.declared.bound.Bound.{Bound}
use Rattle.timing.specs.Bounds.{bound_of}
use Rattle.timing.specs.Limits.{delay_limit}
use Rattle.timing.specs.Model.{BoundModel}
use Rattle.timing.specs.Timetables.{times, KeepsAll, Contradictory}
use Rattle.timing.specs.Places.{far_mark, span}
use Rattle.timing.specs.Knots.{no_bound}
use Rattle.timing.specs.Rise.{Rising, Summit, room}
use Rattle.timing.proofs.Rise.{rising_start, risen, summit, contradictory_at}
use Rattle.timing.proofs.Room.{room_lt}
use Rattle.solver.specs.declared.task.Task.{Task}
use Rattle.solver.specs.Tasks.{Level, PhaseOver, Testable}
use Rattle.solver.specs.Asked.{asked}
use Rattle.solver.proofs.Passes.{bound_at}
use Rattle.solver.proofs.Lowering.{within-those}

pub testable_at : (x : List ℤ) (bounds : List Bound) (i : ℕ) (b : BoundModel) → AllByRecursion (Testable x) (map bound_of bounds) → i < length bounds → bound_at bounds i ≡ b → Testable x b
testable_at x bounds i b all h is = subst (Testable x) is (All-get_or (Testable x) (map bound_of bounds) i no_bound (simp length-map h) all)

module _ {R : Type 0} {G : Ghosts R} (k : Task R G) (x : List ℤ) where
  module _ {A : Admits} (laws : Laws A (asked k).meaning) where
    pub first_rising : (v : ℤ) → Level k.sheet.now.events k.source v x → v ≡ neg_ℤ (span delay_limit) → Rising (asked k) (times x)
    first_rising v level low =
        let put = subst (λ (w : ℤ). Level k.sheet.now.events k.source w x) low level in
        rising_start (asked k) laws (within-those k) (times x) put.starts put.others

    module _ (y : List ℤ) (over : PhaseOver (asked k) x y) where
      pub next-rising : Rising (asked k) (times x) → Rising (asked k) (times y)
      next-rising rising = risen (asked k) laws (within-those k) (times x) (times y) rising over.stands over.quiet

      -- some event rose
      pub next-room : (e : ℕ) × (e < k.sheet.now.events) × (times x e <ℤ times y e)
          → room (times y) (λ _. far_mark delay_limit) k.sheet.now.events < room (times x) (λ _. far_mark delay_limit) k.sheet.now.events
      next-room rose =
          room_lt (times x) (λ _. far_mark delay_limit) (times y) (λ _. far_mark delay_limit) k.sheet.now.events
          (λ e h. (over.stands.low e h, omega (arith, ints))) rose.0 rose.1 (over.stands.high rose.0 rose.1) (inl rose.2)

      -- none did
      pub at-summit : Rising (asked k) (times x) → ((e : ℕ) → e < k.sheet.now.events → times y e ≤ℤ times x e) → Summit (asked k) (times x)
      at-summit rising still = summit (asked k) laws (within-those k) (times x) (times y) rising over.stands still

    -- the rise has ended at a timetable that breaks a bound
    pub summit_contradictory : Summit (asked k) (times x) → (KeepsAll (asked k).meaning (asked k).bounds (times x) → ⊥) → Contradictory (asked k).meaning (asked k).bounds
    summit_contradictory top breaks =
        let sheet = k.sheet.now.sheet in
        contradictory_at (asked k) laws (record { few = sheet.few; limit = sheet.limit; bounds = within-those k }) k.inside (times x) top breaks
