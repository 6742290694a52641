-- Passes over the bounds: one that goes round from a first one and has lowered nothing yet, and one that has found each kept.
use Rattle.std.proofs.Common.{◌≡◌, ℕ, ◌+◌, ◌<◌, ◌≤◌, true, ◌⊎◌, List, map, length, get_or, ℤ, sym, subst, arith, below_more}
use Rattle.std.specs.List.{AllByRecursion}
use Rattle.std.proofs.lemmas.List.{length-map}
use Rattle.rules.specs.declared.RuleSet.{Ghosts}
use Rattle.timing.specs.declared.bound.Bound.{Bound}
use Rattle.timing.specs.Bounds.{bound_of}
use Rattle.timing.specs.Model.{BoundModel}
use Rattle.timing.specs.Timetables.{Timetable, times, Keeps, KeepsAll}
use Rattle.timing.specs.Knots.{no_bound}
use Rattle.timing.specs.Rise.{Phase, Quiet, room}
use Rattle.timing.proofs.Those.{those_in, those_out}
use Rattle.solver.specs.declared.task.Task.{Task}
use Rattle.solver.specs.Tasks.{flag}
use Rattle.solver.specs.Asked.{asked}
use Rattle.solver.proofs.Turns.{Seen, seen_more, seen_all}

abbrev pub bound_at : List Bound → ℕ → BoundModel
bound_at bounds i = get_or (map bound_of bounds) i no_bound

pub record Pass {R : Type 0} {G : Ghosts R} (k : Task R G) (x y₀ y : List ℤ) (first step : ℕ) : Type 0 where
  pub long : length y ≡ 64
  pub from : first ≤ length k.sheet.now.bounds.now
  pub stands : Phase (asked k) (times x) (times y)
  pub least : room (times x) (times y) k.sheet.now.events ≤ room (times x) (times y₀) k.sheet.now.events
  pub quiet : (j : ℕ) → j < length k.sheet.now.bounds.now → Seen (length k.sheet.now.bounds.now) first step j → flag k.chosen.now j ≡ true
      → Quiet (asked k) (times x) (times y) (bound_at k.sheet.now.bounds.now j)

module _ {R : Type 0} {G : Ghosts R} {k : Task R G} {x : List ℤ} where
  module _ {y₀ y : List ℤ} {first step : ℕ} (p : Pass k x y₀ y first step) where
    -- the bound that the next step meets asks for no lower y
    pub pass_quiet : (i : ℕ) → i < length k.sheet.now.bounds.now → (i ≡ first + step) ⊎ (i + length k.sheet.now.bounds.now ≡ first + step)
        → (b : BoundModel) → bound_at k.sheet.now.bounds.now i ≡ b → Quiet (asked k) (times x) (times y) b → Pass k x y₀ y first (step + 1)
    pass_quiet i h at b is quiet =
        record {
          long = p.long;
          from = p.from;
          stands = p.stands;
          least = p.least;
          quiet = seen_more (λ j. flag k.chosen.now j ≡ true → Quiet (asked k) (times x) (times y) (bound_at k.sheet.now.bounds.now j))
              (length k.sheet.now.bounds.now) first step i h at p.quiet (λ _. subst (Quiet (asked k) (times x) (times y)) (sym is) quiet);
        }

    -- the pass is over: no bound that takes part asks for more
    pub pass_end : length k.sheet.now.bounds.now ≤ step → AllByRecursion (Quiet (asked k) (times x) (times y)) (asked k).bounds
    pass_end h =
        those_in (Quiet (asked k) (times x) (times y)) (flag k.chosen.now) (map bound_of k.sheet.now.bounds.now) no_bound
        (λ i l on. let l' : i < length k.sheet.now.bounds.now = simp length-map at l in p.quiet i l' (seen_all (length k.sheet.now.bounds.now) first step i l' h) on)

module _ {R : Type 0} {G : Ghosts R} (k : Task R G) (t : Timetable) where
  -- the timetable keeps each bound that takes part and was met
  abbrev pub KeptBelow : ℕ → Type 0
  KeptBelow i = (j : ℕ) → j < i → flag k.chosen.now j ≡ true → Keeps (asked k).meaning t (bound_at k.sheet.now.bounds.now j)

  module _ (i : ℕ) where
    pub kept_so_far : (b : BoundModel) → KeptBelow i → bound_at k.sheet.now.bounds.now i ≡ b → Keeps (asked k).meaning t b → KeptBelow (i + 1)
    kept_so_far b below is keeps =
        below_more (λ j. flag k.chosen.now j ≡ true → Keeps (asked k).meaning t (bound_at k.sheet.now.bounds.now j)) i below
        (λ _. subst (Keeps (asked k).meaning t) (sym is) keeps)

    pub kept_all : length k.sheet.now.bounds.now ≤ i → KeptBelow i → KeepsAll (asked k).meaning (asked k).bounds t
    kept_all h below =
        those_in (Keeps (asked k).meaning t) (flag k.chosen.now) (map bound_of k.sheet.now.bounds.now) no_bound
        (λ j l on. let l' : j < length k.sheet.now.bounds.now = simp length-map at l in below j (omega arith) on)

    -- or it breaks one
    pub broken : (b : BoundModel) → i < length k.sheet.now.bounds.now → flag k.chosen.now i ≡ true → bound_at k.sheet.now.bounds.now i ≡ b
        → (Keeps (asked k).meaning t b → ⊥) → KeepsAll (asked k).meaning (asked k).bounds t → ⊥
    broken b h on is breaks keeps =
        breaks (subst (Keeps (asked k).meaning t) is
        (those_out (Keeps (asked k).meaning t) (flag k.chosen.now) (map bound_of k.sheet.now.bounds.now) no_bound keeps i (simp length-map h) on))
