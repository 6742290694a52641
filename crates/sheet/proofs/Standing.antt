-- What later layers need of every drawn sheet: it is a sheet of the timing model, and each event is found by its name.
use Rattle.std.proofs.Common.{◌≡◌, ℕ, ◌<◌, ◌≤◌, true, List, [], length, get_or, Some, vec_items, arith}
use Rattle.std.specs.List.{AllByRecursion}
use Rattle.std.proofs.ByRecursion.{all_from_every, All-map, All-get_or}
use Rattle.text.specs.Names.{is_name}
use Rattle.text.specs.Spelled.{spelled}
use Rattle.text.specs.declared.name.Name.{Name}
use Rattle.rules.specs.declared.RuleSet.{Ghosts}
use Rattle.timing.specs.Limits.{delay_limit}
use Rattle.timing.specs.Model.{IsSheet, BoundWithin}
use Rattle.sheet.specs.declared.drawn.Drawn.{Drawn}
use Rattle.sheet.specs.Model.{sheet_of}
use Rattle.sheet.specs.Plain.{number_in}
use Rattle.sheet.proofs.Numbering.{number_of_name as distinct-numbers}
use Rattle.sheet.proofs.Outcomes.{event_count, bound_count}
use Rattle.sheet.proofs.Terms.{terms_within}

module _ {R : Type 0} {G : Ghosts R} (d : Drawn R G) where
  pub few_events : length (sheet_of d).names ≤ 64
  few_events = omega (arith, event_count d.names d.bounds, d.few)

  pub few_bounds : length (sheet_of d).bounds ≤ 256
  few_bounds = omega (arith, bound_count d.names d.bounds, d.most)

  pub sheet_is : IsSheet 64 delay_limit (length (sheet_of d).names) (sheet_of d).bounds
  sheet_is = record {
    few = few_events;
    limit = omega arith;
    bounds = all_from_every (BoundWithin (length (sheet_of d).names) delay_limit) (sheet_of d).bounds
        (λ i e _ lt. (d.aimed i e lt, terms_within (length (sheet_of d).names) (get_or (sheet_of d).bounds i e).terms (d.termed i e lt)));
  }

  -- each name is a name
  pub all-names : AllByRecursion (λ (n : List ℕ). is_name n ≡ true) (sheet_of d).names
  all-names =
      All-map (λ (n : List ℕ). is_name n ≡ true) spelled (vec_items d.names)
      (all_from_every (λ (n : Name). is_name (spelled n) ≡ true) (vec_items d.names) (λ i e _ _. (get_or (vec_items d.names) i e).named))

  pub name_is : (i : ℕ) → i < length (sheet_of d).names → is_name (get_or (sheet_of d).names i []) ≡ true
  name_is i lt = All-get_or (λ (n : List ℕ). is_name n ≡ true) (sheet_of d).names i [] lt all-names

  -- each event is found by its name
  pub number_of_name : (i : ℕ) → i < length (sheet_of d).names → number_in (sheet_of d).names (get_or (sheet_of d).names i []) ≡ Some i
  number_of_name = distinct-numbers (sheet_of d).names d.apart
