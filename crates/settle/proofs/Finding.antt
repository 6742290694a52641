-- What the solver gives is right for the sheet whose bounds it was given.
use Rattle.std.proofs.Common.{◌≡◌, ℕ, suc, ◌<◌, ◌≤◌, Bool, true, false, List, [], ◌∷◌, map, length, replicate, ℤ, sym, refl, ap, ◌∙◌, subst, arith}
use Rattle.std.proofs.lemmas.List.{length-map, get_or-replicate}
use Rattle.std.proofs.lemmas.Bool.{cond-true}
use Rattle.rules.specs.declared.RuleSet.{Ghosts}
use Rattle.rules.specs.Laws.{Enough}
use Rattle.timing.specs.Bounds.{bound_of}
use Rattle.timing.specs.Limits.{delay_limit}
use Rattle.timing.specs.Model.{BoundModel, IsSheet}
use Rattle.timing.specs.Timetables.{times, Contradictory}
use Rattle.timing.specs.Places.{Places}
use Rattle.timing.specs.Knots.{Knot, those}
use Rattle.timing.specs.declared.bound.Bound.{Bound}
use Rattle.sheet.specs.Model.{sheet_of}
use Rattle.sheet.specs.declared.drawn.Drawn.{Drawn}
use Rattle.sheet.proofs.Standing.{sheet_is, few_bounds}
use Rattle.solver.specs.Tasks.{flag, taking_part}
use Rattle.solver.specs.Solutions.{AtPlaces}
use Rattle.settle.specs.declared.settled.Found.TheVariants.{Placed, Knotted}
use Rattle.settle.specs.Held.{events}
use Rattle.settle.specs.Meaning.{Right}

-- all of a list
those-all : {X : Type 0} (chosen : ℕ → Bool) (xs : List X) → ((i : ℕ) → i < length xs → chosen i ≡ true) → those chosen xs ≡ xs
those-all chosen [] h = refl
those-all chosen (x ∷ xs) h =
    cond-true (chosen 0) _ _ (h 0 (omega arith)) ∙ ap (λ l. x ∷ l) (those-all (λ j. chosen (suc j)) xs (λ i l. h (suc i) (omega arith)))

module _ {R : Type 0} {G : Ghosts R} (d : Drawn R G) (n : ℕ) (count : n ≡ events (sheet_of d)) (bs : List Bound) (standing : map bound_of bs ≡ (sheet_of d).bounds) where
  pub sheet_given : IsSheet 64 delay_limit n (map bound_of bs)
  sheet_given =
      let P : ℕ → Type 0 = λ m. IsSheet 64 delay_limit m (map bound_of bs) in
      let Q : List BoundModel → Type 0 = λ l. IsSheet 64 delay_limit (events (sheet_of d)) l in
      subst P (sym count) (subst Q (sym standing) (sheet_is d))

  pub bounds_given : length bs ≤ 256
  bounds_given = omega (arith, few_bounds d, length-map bs bound_of, ap length standing)

  all-taken : taking_part (replicate 256 true) bs ≡ (sheet_of d).bounds
  all-taken =
      those-all (flag (replicate 256 true)) (map bound_of bs) (λ i l. get_or-replicate 256 i true false (omega (arith, few_bounds d, ap length standing))) ∙ standing

  module _ (E : Enough) (source : ℕ) (inside : source < n) where
    pub placed-right : (p : List ℤ) → AtPlaces E n source (taking_part (replicate 256 true) bs) p → Right E (sheet_of d) source (Placed p)
    placed-right p at =
        let P : ℕ → Type 0 = λ m. Places E delay_limit m source (sheet_of d).bounds (times p) in
        let Q : List BoundModel → Type 0 = λ l. Places E delay_limit n source l (times p) in
        (omega arith, subst P count (subst Q all-taken at.places))

    pub knotted-right : (flags : List Bool) → Contradictory E (taking_part (replicate 256 true) bs) → Knot E (sheet_of d).bounds (flag flags)
        → Right E (sheet_of d) source (Knotted flags)
    knotted-right flags none is =
        let P : List BoundModel → Type 0 = Contradictory E in
        (omega arith, subst P all-taken none, is)
