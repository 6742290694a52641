-- What is put of a need is what is to be printed of it.
use Rattle.std.proofs.Common.{◌≡◌, ℕ, zero, suc, ◌+◌, ◌<◌, ◌≤◌, Bool, true, false, cond, List, [], ◌∷◌, ◌++◌, length, get_or, take, ℤ, Some, Ok, Option, Result, sym, refl, ap, ◌∙◌, subst, inl, inr, append_assoc, append-nil, arith}
use Rattle.std.specs.List.{slice_get, AllByRecursion}
use Rattle.std.proofs.ByRecursion.{All-get_or}
use Rattle.std.proofs.lemmas.List.{take_more}
use Rattle.std.proofs.lemmas.Option.{slice_get-get_or}
use Rattle.std.proofs.lemmas.Bool.{cond-true, lt-ltb}
use Rattle.rules.specs.Sets.{vote_enough}
use Rattle.rules.specs.SetsLemmas.{vote_laws}
use Rattle.timing.specs.Limits.{delay_limit}
use Rattle.timing.specs.Model.{IsSheet}
use Rattle.timing.specs.Places.{separation}
use Rattle.timing.specs.Timetables.{Timetable, times}
use Rattle.sheet.specs.Plain.{PlainSheet}
use Rattle.sheet.specs.declared.fault.Refusal.{Refusal}
use Rattle.settle.specs.declared.reading.Reading.{Reading}
use Rattle.settle.specs.declared.settled.Found.{Found}
use Rattle.settle.specs.declared.settled.Found.TheVariants.{NoSource, Placed, Knotted}
use Rattle.settle.specs.Held.{events, reading_of, read_held, within, verdict_on}
use Rattle.settle.specs.Meaning.{PlacesFrom, Right, Consistent, Judges}
use Rattle.settle.proofs.Meant.{judges_from}
use Rattle.records.specs.declared.entry.Need.{Need}
use Rattle.report.specs.Known.{Known}
use Rattle.report.specs.Lines.{at_lines}
use Rattle.report.specs.Puts.{place_put, places_put, verdict_line, need_put, need_put_by}
use Rattle.report.specs.Report.{NeedPrinted, NeedsPrinted, Puts}

-- the places that are read are those that were found
read_at : (s : PlainSheet) (places : List ℤ) (e : ℕ) → e < events s → read_held s (Placed places) e ≡ Ok (reading_of (times places) e)
read_at s places e lt = cond-true _ _ _ (lt-ltb e (events s) lt)

places_are : (s : PlainSheet) (places : List ℤ) (n : ℕ) → n ≤ events s → places_put s.names (read_held s (Placed places)) n ≡ at_lines s.names (times places) n
places_are s places zero le = refl
places_are s places (suc n) le =
    let at : place_put (slice_get s.names n) (read_held s (Placed places) n) ≡ place_put (Some (get_or s.names n [])) (Ok (reading_of (times places) n)) =
    ap (λ (o : Option (List ℕ)). place_put o (read_held s (Placed places) n)) (slice_get-get_or s.names n [] (omega arith))
    ∙ ap (place_put (Some (get_or s.names n []))) (read_at s places n (omega arith)) in
    ap (λ (l : List ℕ). l ++ place_put (slice_get s.names n) (read_held s (Placed places) n)) (places_are s places n (omega arith))
    ∙ ap (λ (l : List ℕ). at_lines s.names (times places) n ++ l) at

module _ (s : PlainSheet) (sheet : IsSheet 64 delay_limit (events s) s.bounds) (need : Need) (known : Known (events s) need) where
  abbrev from : List ℕ
  from = get_or s.names need.from []

  abbrev to : List ℕ
  to = get_or s.names need.to []

  -- the line, and the places unless the need is met
  abbrev text : Timetable → Bool → List ℕ
  text p met = verdict_line need.most from to (separation delay_limit p need.to) met ++ cond met [] (at_lines s.names p (events s))

  -- what is put, by the places
  text_is : (places : List ℤ) → need_put_by s (read_held s (Placed places)) need ≡ text (times places) (within need.most (separation delay_limit (times places) need.to))
  text_is places =
      let read = read_held s (Placed places) in
      let put = places_put s.names read (events s) in
      ap (λ (o : Option (List ℕ)). need_put need.most o (slice_get s.names need.to) (read need.to) put) (slice_get-get_or s.names need.from [] known.0)
      ∙ ap (λ (o : Option (List ℕ)). need_put need.most (Some from) o (read need.to) put) (slice_get-get_or s.names need.to [] known.1)
      ∙ ap (λ (r : Result Reading Refusal). need_put need.most (Some from) (Some to) r put) (read_at s places need.to known.1)
      ∙ ap (need_put need.most (Some from) (Some to) (Ok (reading_of (times places) need.to))) (places_are s places (events s) (omega arith))

  told : (p : Timetable) (met : Bool) → PlacesFrom vote_enough s need.from p → Judges vote_enough s need.from need.to need.most (Ok met) → NeedPrinted s need (text p met)
  told p true is judged = (p, is, inl (judged.3, append-nil _))
  told p false is judged = (p, is, inr (judged.2, refl))

  placed : (places : List ℤ) → Right vote_enough s need.from (Placed places) → NeedPrinted s need (need_put_by s (read_held s (Placed places)) need)
  placed places right =
      let judged = judges_from vote_laws s sheet need.from (Placed places) right need.to need.most in
      let by = subst (λ (r : Result Reading Refusal). Judges vote_enough s need.from need.to need.most (verdict_on need.most r)) (read_at s places need.to known.1) judged in
      subst (NeedPrinted s need) (sym (text_is places)) (told (times places) _ right.1 by)

  pub need_printed : Consistent vote_enough s.bounds → (found : Found) → Right vote_enough s need.from found → NeedPrinted s need (need_put_by s (read_held s found) need)
  need_printed some NoSource right = absurd (omega arith)
  need_printed some (Placed places) right = placed places right
  need_printed some (Knotted flags) right = absurd (right.1 some.0 some.1)

-- one need more
pub needs_push : (s : PlainSheet) (needs : List Need) (need : Need) (out more : List ℕ) → NeedsPrinted s needs out → NeedPrinted s need more → NeedsPrinted s (needs ++ (need ∷ [])) (out ++ more)
needs_push s [] need out more h p = (more, [], p, refl, ap (λ (l : List ℕ). l ++ more) h ∙ sym (append-nil more))
needs_push s (x ∷ xs) need out more h p =
    (h.0, h.1 ++ more, h.2, needs_push s xs need h.1 more h.3 p, ap (λ (l : List ℕ). l ++ more) h.4 ∙ append_assoc h.0 h.1 more)

-- a turn of the loop: the sheet t that was settled is the sheet s
pub needs_step : (s t : PlainSheet) (found : Found) (before here out : List ℕ) (needs : List Need) (i : ℕ) (d : Need) (source : ℕ) → t ≡ s
    → IsSheet 64 delay_limit (events t) t.bounds → Consistent vote_enough s.bounds → AllByRecursion (Known (events s)) needs → i < length needs
    → source ≡ (get_or needs i d).from → Right vote_enough t source found → Puts (NeedsPrinted s (take i needs)) before here
    → out ≡ here ++ need_put_by t (read_held t found) (get_or needs i d) → Puts (NeedsPrinted s (take (i + 1) needs)) before out
needs_step s t found before here out needs i d source same sheet some known lt from right put is =
    let need = get_or needs i d in
    let sheet' : IsSheet 64 delay_limit (events s) s.bounds = subst (λ (z : PlainSheet). IsSheet 64 delay_limit (events z) z.bounds) same sheet in
    let right' : Right vote_enough s need.from found = subst (λ (k : ℕ). Right vote_enough s k found) from (subst (λ (z : PlainSheet). Right vote_enough z source found) same right) in
    let printed = need_printed s sheet' need (All-get_or (Known (events s)) needs i d lt known) some found right' in
    let more = needs_push s (take i needs) need put.0 _ put.1 printed in
    let text : List ℕ = put.0 ++ need_put_by s (read_held s found) need in (
      text,
      subst (λ (ns : List Need). NeedsPrinted s ns text) (sym (take_more needs i d lt)) more,
      is ∙ ap (λ (z : PlainSheet). here ++ need_put_by z (read_held z found) need) same ∙ ap (λ (l : List ℕ). l ++ need_put_by s (read_held s found) need) put.2
          ∙ append_assoc before put.0 (need_put_by s (read_held s found) need),
    )
