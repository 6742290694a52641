-- A line that was written says what it was written from.
use Rattle.std.proofs.Common.{◌≡◌, ℕ, ◌+◌, ◌-◌, ◌*◌, ◌/◌, ◌%◌, ◌<◌, ◌≤◌, true, false, ◌&&◌, eqb, leb, List, [], ◌∷◌, ◌++◌, map, length, get_or, ℤ, pos, negsuc, neg_ℤ, nat_abs, ◌≤ℤ◌, is_some, Some, Ok, codes, decimal, Option, Result, sym, refl, ap, ◌∙◌, append_assoc, arith}
use lib.Signed.{mag}
use Rattle.std.specs.Option.{ok_or}
use Rattle.std.specs.Fmt.{signed_decimal}
use Rattle.std.specs.List.{AllByRecursion}
use Rattle.std.proofs.ByRecursion.{All-get_or}
use Rattle.std.proofs.lemmas.List.{append-nil, length-append, get_or_at, get_or-append-add}
use Rattle.std.proofs.lemmas.Int.{ints}
use Rattle.std.proofs.lemmas.Bool.{cond-true}
use Rattle.std.proofs.lemmas.Bool.Decides.{nat_tests}
use Rattle.text.specs.declared.fault.Place.{Place}
use Rattle.text.specs.declared.fault.TextFault.{TextFault}
use Rattle.text.specs.declared.numeral.NumeralFault.{NumeralFault}
use Rattle.text.specs.Checks.{and_then}
use Rattle.text.specs.Names.{is_name}
use Rattle.text.specs.Numerals.{ranged}
use Rattle.text.specs.Split.{tabbed, fields_of}
use Rattle.text.proofs.Numerals.{in_range}
use Rattle.text.proofs.WrittenNumbers.{numeral_signed, numeral_decimal}
use Rattle.timing.specs.declared.bound.Term.{Term}
use Rattle.timing.specs.Bounds.{term_of}
use Rattle.timing.specs.Limits.{delay_limit}
use Rattle.timing.specs.Model.{TermModel, BoundModel, TermWithin}
use Rattle.sheet.specs.Plain.{number_in}
use Rattle.sheet.specs.Sound.{Distinct}
use Rattle.sheet.proofs.Numbering.{number_of_name}
use Rattle.records_fault.specs.declared.fault.RecordFault.{RecordFault}
use Rattle.records_fault.specs.declared.fault.RecordFault.TheVariants.{Text, BadNumeral}
use Rattle.records_fault.specs.declared.fault.LoadFault.{LoadFault}
use Rattle.records_fault.specs.declared.fault.LoadFault.TheVariants.{Record, NoSuchEvent}
use Rattle.records.specs.Fields.{carried, map_ok, placed, delay_at, byte_at, event_at}
use Rattle.records.specs.Entries.{an_event, some_bounds, groups, groups_from, term_at, fields_say, line_says}
use Rattle.records_write.specs.Writes.{event_fields, term_fields, limit_fields}
use Rattle.records_write.proofs.Lines.{Printable, printable_name, printable_decimal, printable_signed, fields_tabbed, line_allowed}

-- names as a sheet has them
pub record Named (names : List (List ℕ)) : Type 0 where
  pub well : AllByRecursion (λ n. is_name n ≡ true) names
  pub apart : Distinct names

-- a bound as a sheet has it
pub record Shaped (names : List (List ℕ)) (b : BoundModel) : Type 0 where
  pub on : b.to < length names
  pub kind : b.kind < 256
  pub k : b.k < 256
  pub some : 1 ≤ length b.terms
  pub most : length b.terms ≤ 8
  pub terms : AllByRecursion (TermWithin (length names) delay_limit) b.terms

-- a line of printable fields passes as text
pub line_passes : (names : List (List ℕ)) (n : ℕ) (f : List ℕ) (fs : List (List ℕ)) → AllByRecursion Printable (f ∷ fs)
    → line_says names n (tabbed (f ∷ fs)) ≡ fields_say names n (f ∷ fs)
line_passes names n f fs h =
    ap (λ (r : Result (Unit {0}) TextFault). and_then (carried (λ t. Record (Text t)) r) (λ _. fields_say names n (fields_of (tabbed (f ∷ fs)))))
    (cond-true _ _ _ (line_allowed (f ∷ fs) h))
    ∙ ap (fields_say names n) (fields_tabbed f fs h)

module _ (names : List (List ℕ)) (ok : Named names) where
  name_is : (i : ℕ) → i < length names → is_name (get_or names i []) ≡ true
  name_is i lt = All-get_or (λ n. is_name n ≡ true) names i [] lt ok.well

  event_read : (p : Place) (i : ℕ) → i < length names → event_at names p (get_or names i []) ≡ Ok i
  event_read p i lt =
      ap (λ (r : Result (List ℕ) RecordFault). and_then (carried Record r) (λ name. ok_or (number_in names name) (NoSuchEvent p))) (cond-true _ _ _ (name_is i lt))
      ∙ ap (λ (o : Option ℕ). ok_or o (NoSuchEvent p)) (number_of_name names ok.apart i lt)

  delay_small : (z : ℤ) → neg_ℤ (pos delay_limit) ≤ℤ z → z ≤ℤ pos delay_limit → mag z ≤ delay_limit
  delay_small (pos m) low high = omega (arith, ints)
  delay_small (negsuc m) low high = omega (arith, ints)

  delay_read : (p : Place) (z : ℤ) → neg_ℤ (pos delay_limit) ≤ℤ z → z ≤ℤ pos delay_limit → delay_at p (signed_decimal z) ≡ Ok z
  delay_read p z low high =
      ap (λ (o : Option ℤ). carried (λ _. BadNumeral p) (ranged (neg_ℤ (pos delay_limit)) (pos delay_limit) o))
      (numeral_signed z (omega (arith, delay_small z low high)))
      ∙ ap (carried (λ _. BadNumeral p)) (in_range (neg_ℤ (pos delay_limit)) (pos delay_limit) z low high)

  byte_read : (p : Place) (m : ℕ) → m < 256 → byte_at p (decimal m) ≡ Ok m
  byte_read p m small =
      ap (λ (o : Option ℤ). map_ok nat_abs (carried (λ _. BadNumeral p) (ranged (pos 0) (pos 255) o))) (numeral_decimal m (omega arith))
      ∙ ap (λ (r : Result ℤ NumeralFault). map_ok nat_abs (carried (λ _. BadNumeral p) r)) (in_range (pos 0) (pos 255) (pos m) (omega (arith, ints)) (omega (arith, ints)))

  abbrev as_term : TermModel → Term
  as_term m = record { from = m.from; delay = m.delay }

  terms_same : (ts : List TermModel) → map term_of (map as_term ts) ≡ ts
  terms_same [] = refl
  terms_same (t ∷ ts) = ap (λ (l : List TermModel). t ∷ l) (terms_same ts)

  length-term_fields : (ts : List TermModel) → length (term_fields names ts) ≡ 2 * length ts
  length-term_fields [] = refl
  length-term_fields (t ∷ ts) = omega (arith, length-term_fields ts)

  term_read : (n : ℕ) (fs : List (List ℕ)) (t : TermModel) (j : ℕ) → TermWithin (length names) delay_limit t
      → get_or fs j [] ≡ get_or names t.from [] → get_or fs (j + 1) [] ≡ signed_decimal t.delay → term_at names n fs j ≡ Ok (as_term t)
  term_read n fs t j w from delay =
      rw (from, delay, event_read (placed n j) t.from w.0, delay_read (placed n (j + 1)) t.delay w.1 w.2)

  terms_read : (n : ℕ) (fs front : List (List ℕ)) (ts : List TermModel) (j : ℕ) (said : List Term)
      → fs ≡ front ++ term_fields names ts → j ≡ length front → AllByRecursion (TermWithin (length names) delay_limit) ts
      → groups_from (term_at names n fs) 2 (length ts) j said ≡ Ok (said ++ map as_term ts)
  terms_read n fs front [] j said e at w = ap Ok (sym (append-nil said))
  terms_read n fs front (t ∷ ts) j said e at w =
      let rest = term_fields names ts in
      let two = get_or names t.from [] ∷ signed_decimal t.delay ∷ [] in
      let here : get_or fs j [] ≡ get_or names t.from [] =
      ap (λ (l : List (List ℕ)). get_or l j []) e ∙ get_or_at front (get_or names t.from []) (signed_decimal t.delay ∷ rest) [] j (sym at) in
      let next : get_or fs (j + 1) [] ≡ signed_decimal t.delay =
      ap (λ (l : List (List ℕ)). get_or l (j + 1) []) e ∙ ap (λ (i : ℕ). get_or (front ++ term_fields names (t ∷ ts)) (i + 1) []) at
      ∙ get_or-append-add front (term_fields names (t ∷ ts)) 1 [] in
      let split : fs ≡ (front ++ two) ++ rest = e ∙ sym (append_assoc front two rest) in
      ap (λ (r : Result Term LoadFault). and_then r (λ x. groups_from (term_at names n fs) 2 (length ts) (j + 2) (said ++ (x ∷ [])))) (term_read n fs t j w.0 here next)
      ∙ terms_read n fs (front ++ two) ts (j + 2) (said ++ (as_term t ∷ [])) split (omega (arith, length-append front two)) w.1
      ∙ ap Ok (append_assoc said (as_term t ∷ []) (map as_term ts))

  groups_of : (c fields : ℕ) → fields ≡ 4 + 2 * c → 1 ≤ c → c ≤ 8 → groups 4 2 fields ≡ Some c
  groups_of c fields e one eight =
      let some : (leb 6 fields && (leb fields 20 && eqb ((fields - 4) % 2) 0)) ≡ true = grind (arith, nat_tests) in
      let same : (fields - 4) / 2 ≡ c = omega arith in
      cond-true _ _ _ some ∙ ap Some same

  -- the fields of a bound say that bound
  pub limit_fields_lem : (n : ℕ) (b : BoundModel) → Shaped names b → fields_say names n (limit_fields names b) ≡ Ok (some_bounds (b ∷ []))
  limit_fields_lem n b shaped =
      let fs = limit_fields names b in
      let front = codes "limit" ∷ decimal b.kind ∷ decimal b.k ∷ get_or names b.to [] ∷ [] in
      let count = groups_of (length b.terms) (length fs) (omega (arith, length-term_fields b.terms)) shaped.some shaped.most in
      rw (
        count,
        byte_read (placed n 1) b.kind shaped.kind,
        byte_read (placed n 2) b.k shaped.k,
        event_read (placed n 3) b.to shaped.on,
        terms_read n fs front b.terms 4 [] refl refl shaped.terms,
        terms_same b.terms,
      )

  printable_terms : (ts : List TermModel) → AllByRecursion (TermWithin (length names) delay_limit) ts → AllByRecursion Printable (term_fields names ts)
  printable_terms [] w = tt
  printable_terms (t ∷ ts) w = (
    printable_name (get_or names t.from []) (name_is t.from w.0.0),
    (printable_signed t.delay (omega (arith, delay_small t.delay w.0.1 w.0.2)), printable_terms ts w.1),
  )

  pub printable_limit : (b : BoundModel) → Shaped names b → AllByRecursion Printable (limit_fields names b)
  printable_limit b shaped = (
    ((omega arith, omega arith), ((omega arith, omega arith), ((omega arith, omega arith), ((omega arith, omega arith), ((omega arith, omega arith), tt))))),
    (
      printable_decimal b.kind (omega (arith, shaped.kind)),
      (
        printable_decimal b.k (omega (arith, shaped.k)),
        (printable_name (get_or names b.to []) (name_is b.to shaped.on), printable_terms b.terms shaped.terms),
      ),
    ),
  )

  pub limit_says_lem : (n : ℕ) (b : BoundModel) → Shaped names b → line_says names n (tabbed (limit_fields names b)) ≡ Ok (some_bounds (b ∷ []))
  limit_says_lem n b shaped = line_passes names n (codes "limit") (decimal b.kind ∷ decimal b.k ∷ get_or names b.to [] ∷ term_fields names b.terms) (printable_limit b shaped) ∙ limit_fields_lem n b shaped

pub printable_event : (name : List ℕ) → is_name name ≡ true → AllByRecursion Printable (event_fields name)
printable_event name is = (
  ((omega arith, omega arith), ((omega arith, omega arith), ((omega arith, omega arith), ((omega arith, omega arith), ((omega arith, omega arith), tt))))),
  (printable_name name is, tt),
)

event_fields_lem : (names : List (List ℕ)) (n : ℕ) (name : List ℕ) → is_name name ≡ true → is_some (number_in names name) ≡ false
    → fields_say names n (event_fields name) ≡ Ok (an_event name)
event_fields_lem names n name is fresh = rw (is, fresh)

pub event_says_lem : (names : List (List ℕ)) (n : ℕ) (name : List ℕ) → is_name name ≡ true → is_some (number_in names name) ≡ false
    → line_says names n (tabbed (event_fields name)) ≡ Ok (an_event name)
event_says_lem names n name is fresh = line_passes names n (codes "event") (name ∷ []) (printable_event name is) ∙ event_fields_lem names n name is fresh
