-- Reading one group of fields after another.
use Rattle.std.proofs.Common.{◌≡◌, ℕ, suc, ◌+◌, ◌-◌, ◌*◌, ◌<◌, List, [], ◌∷◌, ◌++◌, Ok, Err, Result, ap, ◌∙◌, arith}
use Rattle.std.proofs.Math.Nat.{mul-suc}
use Rattle.text.specs.Checks.{and_then}
use Rattle.records_fault.specs.declared.fault.LoadFault.{LoadFault}
use Rattle.records.specs.Entries.{groups_from}

module _ {X : Type 0} (at : ℕ → Result X LoadFault) (width count first : ℕ) where
  -- what is left to read after i groups, put after those of said
  abbrev pub Left : ℕ → List X → Result (List X) LoadFault
  Left i said = groups_from at width (count - i) (first + width * i) said

  next : (i : ℕ) (said : List X) → i < count
      → Left i said ≡ and_then (at (first + width * i)) (λ x. Left (i + 1) (said ++ (x ∷ [])))
  next i said lt =
      let one : count - i ≡ suc (count - (i + 1)) = omega arith in
      let far : first + width * i + width ≡ first + width * (i + 1) = omega (arith, mul-suc width i) in
      ap (λ (m : ℕ). groups_from at width m (first + width * i) said) one
      ∙ ap (λ (j : ℕ). and_then (at (first + width * i)) (λ x. groups_from at width (count - (i + 1)) j (said ++ (x ∷ [])))) far

  pub group_more : (i : ℕ) (said : List X) (x : X) → i < count → at (first + width * i) ≡ Ok x → Left i said ≡ Left (i + 1) (said ++ (x ∷ []))
  group_more i said x lt e =
      next i said lt ∙ ap (λ (r : Result X LoadFault). and_then r (λ y. Left (i + 1) (said ++ (y ∷ [])))) e

  pub group_stop : (i : ℕ) (said : List X) (f : LoadFault) → i < count → at (first + width * i) ≡ Err f → Left i said ≡ Err f
  group_stop i said f lt e =
      next i said lt ∙ ap (λ (r : Result X LoadFault). and_then r (λ y. Left (i + 1) (said ++ (y ∷ [])))) e
