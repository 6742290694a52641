-- The calls make only sheets whose bounds the rules admit.
use Rattle.std.proofs.Common.{◌≡◌, ℕ, ◌+◌, Bool, true, false, cond, not, ltb, List, [], ◌∷◌, ◌++◌, length, take, drop, is_some, Some, None, Option, sym, refl, subst, ◌∙◌}
use Rattle.std.proofs.lemmas.List.Elements.{All-append, All-take, All-drop}
use Rattle.std.proofs.lemmas.List.Folds.{list_all-append}
use Rattle.std.proofs.lemmas.List.Sums.{AllPass-from_list_all, list_all-from_AllPass}
use Rattle.std.proofs.lemmas.Bool.{and_from}
use Rattle.rules.specs.Laws.{Admits}
use Rattle.text.specs.Checks.{each}
use Rattle.text.specs.Names.{is_name}
use Rattle.timing.specs.Model.{BoundModel}
use Rattle.sheet.specs.Plain.{PlainSheet, new_sheet, number_in, event_call, bound_call, strike_call, named, bounded, struck, refused, terms_fault, unless}
use Rattle.sheet.specs.declared.fault.CallFault.{CallFault}
use Rattle.sheet.specs.declared.fault.CallFault.TheVariants.{MalformedName, NameTaken, NoSuchEvent, TooManyEvents, TooManyBounds, NotAdmitted}
use Rattle.sheet.specs.declared.fault.Refusal.TheVariants.{NoSuchBound}
use Rattle.records.specs.Loads.{admitted}
use Rattle.records_write.specs.Made.{Step, an_event, a_bound, a_strike, after_step, after_steps}

each_removed : (p : BoundModel → Bool) (xs : List BoundModel) (i : ℕ) → each p xs ≡ true → each p (take i xs ++ drop (i + 1) xs) ≡ true
each_removed p xs i h =
    let all = AllPass-from_list_all p xs h in
    list_all-from_AllPass p (take i xs ++ drop (i + 1) xs)
    (All-append (λ x. p x ≡ true) (take i xs) (drop (i + 1) xs) (All-take (λ x. p x ≡ true) i xs all) (All-drop (λ x. p x ≡ true) (i + 1) xs all))

module _ (A : Admits) where
  abbrev Admitted : PlainSheet → Type 0
  Admitted s = each (admitted A) s.bounds ≡ true

  after_event : (s : PlainSheet) (name : List ℕ) → Admitted s → Admitted (event_call s name).after
  unfolding event_call named refused
  after_event s name h = go (not (is_name name)) (is_some (number_in s.names name)) (ltb (length s.names) 64)
    where
      go : (a b c : Bool)
          → Admitted (cond a (refused s MalformedName) (cond b (refused s NameTaken) (cond c (named s name) (refused s TooManyEvents)))).after
      go true b c = h
      go false true c = h
      go false false true = h
      go false false false = h

  after_bound : (s : PlainSheet) (b : BoundModel) → Admitted s → Admitted (bound_call A s b).after
  unfolding bound_call bounded refused
  after_bound s b h = go (admitted A b) refl (not (ltb b.to (length s.names))) (terms_fault (length s.names) b.terms) (ltb (length s.bounds) 256)
    where
      go : (a : Bool) → admitted A b ≡ a → (c : Bool) (f : Option CallFault) (d : Bool)
          → Admitted (cond (not a) (refused s NotAdmitted) (cond c (refused s NoSuchEvent) (unless s f (cond d (bounded s b) (refused s TooManyBounds))))).after
      go false e c f d = h
      go true e true f d = h
      go true e false (Some fault) d = h
      go true e false None true = list_all-append (admitted A) s.bounds (b ∷ []) ∙ and_from (each (admitted A) s.bounds) (each (admitted A) (b ∷ [])) h (and_from (admitted A b) true e refl)
      go true e false None false = h

  after_strike : (s : PlainSheet) (i : ℕ) → Admitted s → Admitted (strike_call s i).after
  unfolding strike_call struck refused
  after_strike s i h = go (ltb i (length s.bounds))
    where
      go : (a : Bool) → Admitted (cond a (struck s i) (refused s NoSuchBound)).after
      go true = each_removed (admitted A) s.bounds i h
      go false = h

  after_step_lem : (s : PlainSheet) (step : Step) → Admitted s → Admitted (after_step A s step)
  after_step_lem s (an_event name) h = after_event s name h
  after_step_lem s (a_bound b) h = after_bound s b h
  after_step_lem s (a_strike i) h = after_strike s i h

  after_steps_lem : (s : PlainSheet) (steps : List Step) → Admitted s → Admitted (after_steps A s steps)
  after_steps_lem s [] h = h
  after_steps_lem s (step ∷ steps) h = after_steps_lem (after_step A s step) steps (after_step_lem s step h)

  pub made_admitted : (s : PlainSheet) (steps : List Step) → s ≡ after_steps A new_sheet steps → Admitted s
  made_admitted s steps e = subst Admitted (sym e) (after_steps_lem new_sheet steps refl)
