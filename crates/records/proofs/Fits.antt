-- What a line says fits the sheet that it was read for: names are new, events stand, delays are in range.
use Rattle.std.proofs.Common.{◌≡◌, ℕ, zero, suc, ◌+◌, ◌<◌, Bool, true, false, cond, ◌&&◌, eqb, List, [], ◌∷◌, ◌++◌, map, length, get_or, ℤ, pos, neg_ℤ, ◌≤ℤ◌, is_some, Some, None, Ok, Err, codes, Option, Result, IfOk, refl, arith}
use lib.Signed.{le_z}
use Rattle.std.specs.Option.{ok_or, option_map}
use Rattle.std.specs.List.{list_all, AllByRecursion}
use Rattle.std.specs.Str.{bytes_eq}
use Rattle.std.proofs.ByRecursion.{All-append, All-push, All-map}
use Rattle.std.proofs.lemmas.Int.{ints}
use Rattle.std.proofs.lemmas.Bool.{and_parts, cond_both}
use Rattle.std.proofs.lemmas.Result.{IfOk-at_ok}
use Rattle.text.specs.declared.fault.Place.{Place}
use Rattle.text.specs.declared.numeral.NumeralFault.{NumeralFault}
use Rattle.text.specs.declared.numeral.NumeralFault.TheVariants.{OutOfRange}
use Rattle.text.specs.Checks.{line_bytes}
use Rattle.text.specs.Names.{is_name}
use Rattle.text.specs.Numerals.{numeral, ranged}
use Rattle.text.specs.Split.{fields_of}
use Rattle.timing.specs.declared.bound.Term.{Term}
use Rattle.timing.specs.Bounds.{term_of}
use Rattle.timing.specs.Limits.{delay_limit}
use Rattle.timing.specs.Model.{BoundModel, TermWithin, BoundWithin}
use Rattle.sheet.specs.Plain.{number_in}
use Rattle.records.specs.declared.entry.Input.{Input}
use Rattle.records_fault.specs.declared.fault.RecordFault.{RecordFault}
use Rattle.records_fault.specs.declared.fault.RecordFault.TheVariants.{Text, BadNumeral, FieldCount}
use Rattle.records_fault.specs.declared.fault.LoadFault.{LoadFault}
use Rattle.records_fault.specs.declared.fault.LoadFault.TheVariants.{Record, NoSuchEvent}
use Rattle.records.specs.Fields.{carried, placed, name_at, delay_at, side_at, byte_at, most_at, event_at, fresh_at}
use Rattle.records.specs.Entries.{Said, an_event, low_bound, high_bound, high_term, low_bounds}
use Rattle.records.specs.Entries.{sides_agree, input_agrees, groups, groups_from, input_at, term_at, event_says, linear_says, delay_says, limit_says, need_says, fields_say, line_says}
use Rattle.records.specs.Reads.{Fitting}
use Rattle.records.proofs.After.{after, after_any, after_map, after_carried, either}

-- an event that is found stands
number_below : (ns : List (List ℕ)) (name : List ℕ) → (place : Place) → IfOk (ok_or (number_in ns name) (NoSuchEvent place)) (λ i. i < length ns)
number_below [] name place = tt
number_below (m ∷ ms) name place = go (bytes_eq m name) (number_in ms name) (number_below ms name place)
  where
    go : (b : Bool) (o : Option ℕ) → IfOk (ok_or o (NoSuchEvent place)) (λ i. i < length ms)
        → IfOk (ok_or (cond b (Some 0) (option_map (λ i. i + 1) o)) (NoSuchEvent place)) (λ i. i < length (m ∷ ms))
    go true o h = omega arith
    go false None h = tt
    go false (Some i) h = omega arith

abbrev Stands : List (List ℕ) → ℕ → Type 0
Stands names i = i < length names

abbrev IsDelay : ℤ → Type 0
IsDelay z = (neg_ℤ (pos delay_limit) ≤ℤ z) × (z ≤ℤ pos delay_limit)

abbrev IsSide : Option ℤ → Type 0
IsSide None = Unit {0}
IsSide (Some z) = IsDelay z

event_stands : (names : List (List ℕ)) (p : Place) (bytes : List ℕ) → IfOk (event_at names p bytes) (Stands names)
event_stands names p bytes = after_any _ (carried Record (name_at p bytes)) _ (λ name. number_below names name p)

in_range : (z : ℤ) (b : Bool) → (le_z (neg_ℤ (pos delay_limit)) z && le_z z (pos delay_limit)) ≡ b → (place : Place)
    → IfOk (carried (λ (_ : NumeralFault). BadNumeral place) (cond b (Ok z) (Err OutOfRange))) IsDelay
in_range z true e place = let p = and_parts (le_z (neg_ℤ (pos delay_limit)) z) (le_z z (pos delay_limit)) e in (grind (arith, ints), grind (arith, ints))
in_range z false e place = tt

delay_is : (p : Place) (bytes : List ℕ) → IfOk (delay_at p bytes) IsDelay
delay_is p bytes = go (numeral bytes)
  where
    go : (o : Option ℤ) → IfOk (carried (λ _. BadNumeral p) (ranged (neg_ℤ (pos delay_limit)) (pos delay_limit) o)) IsDelay
    go None = tt
    go (Some z) = in_range z _ refl p

side_is : (p : Place) (bytes : List ℕ) → IfOk (side_at p bytes) IsSide
side_is p bytes = either _ (bytes_eq bytes (45 ∷ [])) _ _ tt (after_map _ _ (delay_at p bytes) (delay_is p bytes) (λ z h. h))

module _ (names : List (List ℕ)) where
  abbrev Within : BoundModel → Type 0
  Within = BoundWithin (length names) delay_limit

  low-within : (from to : ℕ) (low : Option ℤ) → Stands names from → Stands names to → IsSide low → AllByRecursion Within (low_bound from to low)
  low-within from to None f t s = tt
  low-within from to (Some z) f t s = ((f, ((t, omega (arith, ints), omega (arith, ints)), tt)), tt)

  high_within : (from to : ℕ) (high : Option ℤ) → Stands names from → Stands names to → IsSide high → AllByRecursion Within (high_bound from to high)
  high_within from to None f t s = tt
  high_within from to (Some z) f t s = ((t, ((f, s.0, s.1), tt)), tt)

  abbrev InputFits : Input → Type 0
  InputFits i = Stands names i.from × IsSide i.low × IsDelay i.high

  inputs-within : (is : List Input) → AllByRecursion InputFits is → AllByRecursion (TermWithin (length names) delay_limit) (map high_term is)
  inputs-within [] h = tt
  inputs-within (i ∷ is) h = ((h.0.0, h.0.2.0, h.0.2.1), inputs-within is h.1)

  lows_within : (to : ℕ) (is : List Input) → Stands names to → AllByRecursion InputFits is → AllByRecursion Within (low_bounds to is)
  lows_within to [] t h = tt
  lows_within to (i ∷ is) t h =
      All-append Within (low_bound i.from to i.low) (low_bounds to is) (low-within i.from to i.low h.0.0 t h.0.1) (lows_within to is t h.1)

  abbrev TermFits : Term → Type 0
  TermFits t = TermWithin (length names) delay_limit (term_of t)

  module _ {X : Type 0} (P : X → Type 0) (at : ℕ → Result X LoadFault) (fits : (j : ℕ) → IfOk (at j) P) (width : ℕ) where
    groups-fit : (count j : ℕ) (said : List X) → AllByRecursion P said → IfOk (groups_from at width count j said) (AllByRecursion P)
    groups-fit zero j said a = a
    groups-fit (suc c) j said a = after _ (at j) _ (fits j) (λ x h. groups-fit c (j + width) (said ++ (x ∷ [])) (All-push P said x a h))

  module _ (n : ℕ) (fs : List (List ℕ)) where
    event-here : (k : ℕ) → IfOk (event_at names (placed n k) (get_or fs k [])) (Stands names)
    event-here k = event_stands names (placed n k) (get_or fs k [])

    fresh-here : (k : ℕ) → IfOk (fresh_at names (placed n k) (get_or fs k [])) (λ name. Fitting names (an_event name))
    fresh-here k =
        after _ (carried Record (name_at (placed n k) (get_or fs k []))) _
        (after_carried _ _ (name_at (placed n k) (get_or fs k []))
        (cond_both (is_name (get_or fs k [])) _ _ (λ (r : Result (List ℕ) RecordFault). IfOk r (λ name. is_name name ≡ true)) (λ is. is) (λ not. tt)))
        (λ name is.
        cond_both (is_some (number_in names name)) _ _ (λ (r : Result (List ℕ) LoadFault). IfOk r (λ name. Fitting names (an_event name))) (λ taken. tt) (λ new. (is, new)))

    side-here : (k : ℕ) → IfOk (carried Record (side_at (placed n k) (get_or fs k []))) IsSide
    side-here k = after_carried _ _ (side_at (placed n k) (get_or fs k [])) (side_is (placed n k) (get_or fs k []))

    delay-here : (k : ℕ) → IfOk (carried Record (delay_at (placed n k) (get_or fs k []))) IsDelay
    delay-here k = after_carried _ _ (delay_at (placed n k) (get_or fs k [])) (delay_is (placed n k) (get_or fs k []))

    input-fits : (j : ℕ) → IfOk (input_at names n fs j) InputFits
    input-fits j =
        after _ (event_at names (placed n j) (get_or fs j [])) _ (event-here j) (λ from f.
        after _ (carried Record (side_at (placed n (j + 1)) (get_or fs (j + 1) []))) _ (side-here (j + 1)) (λ low l.
        after _ (carried Record (delay_at (placed n (j + 2)) (get_or fs (j + 2) []))) _ (delay-here (j + 2)) (λ high h. (f, l, h))))

    term_fits : (j : ℕ) → IfOk (term_at names n fs j) TermFits
    term_fits j =
        after _ (event_at names (placed n j) (get_or fs j [])) _ (event-here j) (λ from f.
        after _ (carried Record (delay_at (placed n (j + 1)) (get_or fs (j + 1) []))) _ (delay-here (j + 1)) (λ high h. (f, h.0, h.1)))

    event-fits : IfOk (event_says names n fs) (Fitting names)
    event-fits = either _ (eqb (length fs) 2) _ _ (after _ (fresh_at names (placed n 1) (get_or fs 1 [])) _ (fresh-here 1) (λ name h. h)) tt

    linear-fits : IfOk (linear_says names n fs) (Fitting names)
    linear-fits =
        either _ (eqb (length fs) 5) _ _
        (after _ (event_at names (placed n 1) (get_or fs 1 [])) _ (event-here 1) (λ from f.
        after _ (event_at names (placed n 2) (get_or fs 2 [])) _ (event-here 2) (λ to t.
        after _ (carried Record (side_at (placed n 3) (get_or fs 3 []))) _ (side-here 3) (λ low l.
        after _ (carried Record (side_at (placed n 4) (get_or fs 4 []))) _ (side-here 4) (λ high h.
        either _ (sides_agree low high) _ _
        (All-append Within (low_bound from to low) (high_bound from to high) (low-within from to low f t l) (high_within from to high f t h)) tt)))))
        tt

    delay-fits : IfOk (delay_says names n fs) (Fitting names)
    delay-fits =
        after_any _ (ok_or (groups 2 3 (length fs)) (Record (FieldCount n))) _ (λ count.
        after _ (event_at names (placed n 1) (get_or fs 1 [])) _ (event-here 1) (λ to t.
        after _ (groups_from (input_at names n fs) 3 count 2 []) _ (groups-fit InputFits (input_at names n fs) input-fits 3 count 2 [] tt) (λ inputs h.
        either _ (list_all input_agrees inputs) _ _ ((t, inputs-within inputs h), lows_within to inputs t h) tt)))

    limit-fits : IfOk (limit_says names n fs) (Fitting names)
    limit-fits =
        after_any _ (ok_or (groups 4 2 (length fs)) (Record (FieldCount n))) _ (λ count.
        after_any _ (carried Record (byte_at (placed n 1) (get_or fs 1 []))) _ (λ kind.
        after_any _ (carried Record (byte_at (placed n 2) (get_or fs 2 []))) _ (λ k.
        after _ (event_at names (placed n 3) (get_or fs 3 [])) _ (event-here 3) (λ to t.
        after _ (groups_from (term_at names n fs) 2 count 4 []) _ (groups-fit TermFits (term_at names n fs) term_fits 2 count 4 [] tt) (λ terms h.
        ((t, All-map (TermWithin (length names) delay_limit) term_of terms h), tt))))))

    need-fits : IfOk (need_says names n fs) (Fitting names)
    need-fits =
        either _ (eqb (length fs) 4) _ _
        (after _ (event_at names (placed n 1) (get_or fs 1 [])) _ (event-here 1) (λ from f.
        after _ (event_at names (placed n 2) (get_or fs 2 [])) _ (event-here 2) (λ to t.
        after_any _ (carried Record (most_at (placed n 3) (get_or fs 3 []))) _ (λ most. (f, t)))))
        tt

    fields_fit : IfOk (fields_say names n fs) (Fitting names)
    fields_fit =
        either _ (bytes_eq (get_or fs 0 []) (codes "event")) _ _ event-fits
        (either _ (bytes_eq (get_or fs 0 []) (codes "linear")) _ _ linear-fits
        (either _ (bytes_eq (get_or fs 0 []) (codes "delay")) _ _ delay-fits
        (either _ (bytes_eq (get_or fs 0 []) (codes "limit")) _ _ limit-fits
        (either _ (bytes_eq (get_or fs 0 []) (codes "need")) _ _ need-fits tt))))

  pub line_fits : (n : ℕ) (line : List ℕ) → IfOk (line_says names n line) (Fitting names)
  line_fits n line = after_any _ (carried (λ f. Record (Text f)) (line_bytes n line)) _ (λ _. fields_fit n (fields_of line))

  pub said_fits : (n : ℕ) (line : List ℕ) (said : Said) → line_says names n line ≡ Ok said → Fitting names said
  said_fits n line said e = IfOk-at_ok (Fitting names) e (line_fits n line)
