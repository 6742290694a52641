-- What holds of a sheet still holds after a call.
use Rattle.std.proofs.Common.{◌≡◌, ℕ, ◌+◌, ◌<◌, ◌≤◌, false, List, [], ◌∷◌, ◌++◌, length, get_or, take, drop, is_some, None, sym, ap, ◌∙◌, ⊎_elim, arith}
use Rattle.std.specs.List.{All}
use Rattle.std.proofs.lemmas.List.Elements.{All-push, All-append, All-take, All-drop}
use Rattle.std.proofs.lemmas.List.{length_push, get_or_append_left, get_or_push}
use Rattle.std.proofs.lemmas.Bool.{cases_lt}
use Rattle.timing.specs.Model.{BoundModel}
use Rattle.sheet.specs.Plain.{PlainSheet, number_in, terms_fault, named, bounded, struck}
use Rattle.sheet.specs.Sound.{Distinct, Aimed, Termed}
use Rattle.sheet.proofs.Numbering.{no_number}
use Rattle.sheet.proofs.Terms.{more-events}

-- event
module _ (s : PlainSheet) (n : List ℕ) where
  pub named_apart : is_some (number_in s.names n) ≡ false → Distinct s.names → Distinct (named s n).after.names
  unfolding named
  named_apart free d i j lt within same =
      let long = length_push s.names n in
      let il : i < length s.names = omega arith in
      let at_i : get_or (s.names ++ n ∷ []) i [] ≡ get_or s.names i [] = get_or_append_left s.names (n ∷ []) [] i il in
      ⊎_elim (λ (jl : j < length s.names). d i j lt jl (sym at_i ∙ same ∙ get_or_append_left s.names (n ∷ []) [] j jl))
      (λ (jl : length s.names ≤ j). no_number s.names n free i il (sym at_i ∙ same ∙ get_or_push s.names n [] j (omega arith)))
      (cases_lt j (length s.names))

  pub named_aimed : Aimed s → Aimed (named s n).after
  unfolding named
  named_aimed a i d h = omega (arith, a i d h, length_push s.names n)

  pub named_termed : Termed s → Termed (named s n).after
  unfolding named
  named_termed a i d h = more-events (length s.names) (length (s.names ++ n ∷ [])) (omega (arith, length_push s.names n)) (get_or s.bounds i d).terms (a i d h)

-- bound
module _ (s : PlainSheet) (b : BoundModel) where
  pub bounded_aimed : b.to < length s.names → Aimed s → Aimed (bounded s b).after
  unfolding bounded
  bounded_aimed h a = All-push (λ (c : BoundModel). c.to < length s.names) s.bounds b a h

  pub bounded_termed : None ≡ terms_fault (length s.names) b.terms → Termed s → Termed (bounded s b).after
  unfolding bounded
  bounded_termed h a = All-push (λ (c : BoundModel). is_some (terms_fault (length s.names) c.terms) ≡ false) s.bounds b a (ap is_some (sym h))

-- strike
module _ (s : PlainSheet) (i : ℕ) where
  those_left : (P : BoundModel → Type 0) → All P s.bounds → All P (take i s.bounds ++ drop (i + 1) s.bounds)
  those_left P h = All-append P (take i s.bounds) (drop (i + 1) s.bounds) (All-take P i s.bounds h) (All-drop P (i + 1) s.bounds h)

  pub struck_aimed : Aimed s → Aimed (struck s i).after
  unfolding struck
  struck_aimed a = those_left (λ (c : BoundModel). c.to < length s.names) a

  pub struck_termed : Termed s → Termed (struck s i).after
  unfolding struck
  struck_termed a = those_left (λ (c : BoundModel). is_some (terms_fault (length s.names) c.terms) ≡ false) a
