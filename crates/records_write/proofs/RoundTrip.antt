-- Loading the text of a sheet under rules that admit its bounds gives the sheet.
use Rattle.std.proofs.Common.{◌≡◌, ℕ, suc, ◌+◌, ◌*◌, ◌<◌, ◌≤◌, true, false, ltb, List, [], ◌∷◌, ◌++◌, map, length, get_or, ℤ, pos, negsuc, neg_ℤ, ◌≤ℤ◌, is_some, None, Ok, decimal, Result, sym, refl, ap, ◌∙◌, subst, append_assoc, add-zero, arith}
use Rattle.std.specs.Fmt.{signed_decimal}
use Rattle.std.specs.List.{flat_map, AllByRecursion}
use Rattle.std.specs.Str.{bytes_eq}
use Rattle.std.proofs.lemmas.Fmt.{length-decimal-le, length_signed_le}
use Rattle.std.proofs.ByRecursion.{All-get_or, All-weaker}
use Rattle.std.proofs.lemmas.Slice.Eq.{bytes_eq-Decides}
use Rattle.std.proofs.lemmas.List.{append-nil, length-append, length_push, get_or_at, get_or_append_left}
use Rattle.std.proofs.lemmas.Int.{ints}
use Rattle.std.proofs.lemmas.Bool.{cond-true, cond-false, lt-ltb, le-ltb, and_parts, false_from_ne_true}
use Rattle.rules.specs.Laws.{Admits}
use Rattle.text.specs.declared.fault.TextFault.{TextFault}
use Rattle.text.specs.Checks.{and_then, each, whole_text, finished}
use Rattle.text.specs.Names.{is_name}
use Rattle.text.specs.Split.{tabbed, lines_of}
use Rattle.timing.specs.Limits.{delay_limit}
use Rattle.timing.specs.Model.{TermModel, BoundModel, TermWithin}
use Rattle.sheet.specs.Plain.{PlainSheet, number_in}
use Rattle.sheet.specs.Sound.{Distinct}
use Rattle.records_fault.specs.declared.fault.RecordFault.TheVariants.{Text}
use Rattle.records_fault.specs.declared.fault.LoadFault.{LoadFault}
use Rattle.records_fault.specs.declared.fault.LoadFault.TheVariants.{Record}
use Rattle.records.specs.Fields.{carried}
use Rattle.records.specs.Entries.{Said}
use Rattle.records.specs.Loads.{State, start, admitted, added, line_adds, lines_add, loaded}
use Rattle.records_write.specs.Writes.{event_fields, term_fields, limit_fields, line_of, written}
use Rattle.records_write.proofs.Lines.{name_parts, line_lacks, lines_joined, length-joined, closed_finished, closed_append, closed_joined}
use Rattle.records_write.proofs.ReadBack.{Named, Shaped, limit_says_lem, event_says_lem, printable_limit, printable_event}

-- a sheet that the calls can make
pub record Made (s : PlainSheet) : Type 0 where
  pub few : length s.names ≤ 64
  pub named : Named s.names
  pub most : length s.bounds ≤ 256
  pub shaped : AllByRecursion (Shaped s.names) s.bounds

-- a name that stands nowhere has no number
none_numbered : (ns : List (List ℕ)) (n : List ℕ) → ((i : ℕ) → i < length ns → get_or ns i [] ≡ n → ⊥) → number_in ns n ≡ None
none_numbered [] n h = refl
none_numbered (m ∷ ms) n h =
    let rest = none_numbered ms n (λ i lt. h (suc i) (omega arith)) in
    rw (false_from_ne_true (bytes_eq m n) (λ e. h 0 (omega arith) ((bytes_eq-Decides m n).0 e)), rest)

-- a name of distinct names is new after those before it
fresh_name : (pre : List (List ℕ)) (x : List ℕ) (xs : List (List ℕ)) → Distinct (pre ++ (x ∷ xs)) → is_some (number_in pre x) ≡ false
fresh_name pre x xs d =
    ap is_some (none_numbered pre x (λ i lt e.
    d i (length pre) lt (omega (arith, length-append pre (x ∷ xs)))
    (get_or_append_left pre (x ∷ xs) [] i lt ∙ e ∙ sym (get_or_at pre x xs [] (length pre) refl))))

module _ (admits : Admits) (slots : ℕ) where
  line_on : (n : ℕ) (s t : State) (l : List ℕ) (ls : List (List ℕ)) → line_adds admits slots n s l ≡ Ok t
      → lines_add admits slots n s (l ∷ ls) ≡ lines_add admits slots (n + 1) t ls
  line_on n s t l ls e = ap (λ (r : Result State LoadFault). and_then r (λ u. lines_add admits slots (n + 1) u ls)) e

  event_adds : (n : ℕ) (pre : List (List ℕ)) (x : List ℕ) → is_name x ≡ true → is_some (number_in pre x) ≡ false → length pre < 64
      → line_adds admits slots n (record { sheet = record { names = pre; bounds = [] }; needs = [] }) (tabbed (event_fields x))
      ≡ Ok (record { sheet = record { names = pre ++ (x ∷ []); bounds = [] }; needs = [] })
  event_adds n pre x is fresh few =
      ap (λ (r : Result Said LoadFault). and_then r (added admits slots n (record { sheet = record { names = pre; bounds = [] }; needs = [] })))
      (event_says_lem pre n x is fresh)
      ∙ rw (lt-ltb (length pre) 64 few)

  events_add : (n : ℕ) (pre xs : List (List ℕ)) (ls : List (List ℕ)) → AllByRecursion (λ x. is_name x ≡ true) xs → Distinct (pre ++ xs) → length pre + length xs ≤ 64
      → lines_add admits slots n (record { sheet = record { names = pre; bounds = [] }; needs = [] }) (map (λ x. tabbed (event_fields x)) xs ++ ls)
      ≡ lines_add admits slots (n + length xs) (record { sheet = record { names = pre ++ xs; bounds = [] }; needs = [] }) ls
  events_add n pre [] ls named apart few = simp (append-nil, add-zero)
  events_add n pre (x ∷ xs) ls named apart few =
      let whole : (pre ++ (x ∷ [])) ++ xs ≡ pre ++ (x ∷ xs) = append_assoc pre (x ∷ []) xs in
      line_on n (record { sheet = record { names = pre; bounds = [] }; needs = [] }) (record { sheet = record { names = pre ++ (x ∷ []); bounds = [] }; needs = [] }) (tabbed (event_fields x)) (map (λ y. tabbed (event_fields y)) xs ++ ls)
      (event_adds n pre x named.0 (fresh_name pre x xs apart) (omega arith))
      ∙ events_add (n + 1) (pre ++ (x ∷ [])) xs ls named.1 (subst Distinct (sym whole) apart) (omega (arith, length_push pre x))
      ∙ ap (λ (m : ℕ). lines_add admits slots m (record { sheet = record { names = (pre ++ (x ∷ [])) ++ xs; bounds = [] }; needs = [] }) ls) (omega arith)
      ∙ ap (λ (l : List (List ℕ)). lines_add admits slots (n + length (x ∷ xs)) (record { sheet = record { names = l; bounds = [] }; needs = [] }) ls) whole

  module _ (names : List (List ℕ)) (named : Named names) where
    limit-adds : (n : ℕ) (pre : List BoundModel) (b : BoundModel) → Shaped names b → admitted admits b ≡ true → length pre < 256
        → line_adds admits slots n (record { sheet = record { names = names; bounds = pre }; needs = [] }) (tabbed (limit_fields names b))
        ≡ Ok (record { sheet = record { names = names; bounds = pre ++ (b ∷ []) }; needs = [] })
    limit-adds n pre b shaped lawful few =
        ap (λ (r : Result Said LoadFault). and_then r (added admits slots n (record { sheet = record { names = names; bounds = pre }; needs = [] })))
        (limit_says_lem names named n b shaped)
        ∙ rw (lawful, lt-ltb (length pre) 256 few)

    limits-add : (n : ℕ) (pre bs : List BoundModel) (ls : List (List ℕ)) → AllByRecursion (Shaped names) bs → each (admitted admits) bs ≡ true → length pre + length bs ≤ 256
        → lines_add admits slots n (record { sheet = record { names = names; bounds = pre }; needs = [] }) (map (λ b. tabbed (limit_fields names b)) bs ++ ls)
        ≡ lines_add admits slots (n + length bs) (record { sheet = record { names = names; bounds = pre ++ bs }; needs = [] }) ls
    limits-add n pre [] ls shaped lawful few = simp (append-nil, add-zero)
    limits-add n pre (b ∷ bs) ls shaped lawful few =
        let whole : (pre ++ (b ∷ [])) ++ bs ≡ pre ++ (b ∷ bs) = append_assoc pre (b ∷ []) bs in
        let both = and_parts (admitted admits b) (each (admitted admits) bs) lawful in
        line_on n (record { sheet = record { names = names; bounds = pre }; needs = [] }) (record { sheet = record { names = names; bounds = pre ++ (b ∷ []) }; needs = [] }) (tabbed (limit_fields names b)) (map (λ c. tabbed (limit_fields names c)) bs ++ ls)
        (limit-adds n pre b shaped.0 both.0 (omega arith))
        ∙ limits-add (n + 1) (pre ++ (b ∷ [])) bs ls shaped.1 both.1 (omega (arith, length_push pre b))
        ∙ ap (λ (m : ℕ). lines_add admits slots m (record { sheet = record { names = names; bounds = (pre ++ (b ∷ [])) ++ bs }; needs = [] }) ls) (omega arith)
        ∙ ap (λ (l : List BoundModel). lines_add admits slots (n + length (b ∷ bs)) (record { sheet = record { names = names; bounds = l }; needs = [] }) ls) whole

-- how long the lines are
pub event_long : (name : List ℕ) → is_name name ≡ true → length (line_of (event_fields name)) ≤ 19
event_long name is =
    let parts = name_parts name is in omega (arith, length_push (tabbed (event_fields name)) 10, parts.1)

pub delay_long : (z : ℤ) → neg_ℤ (pos delay_limit) ≤ℤ z → z ≤ℤ pos delay_limit → length (signed_decimal z) ≤ 8
delay_long (pos m) low high = length_signed_le 7 (pos m) (omega (arith, ints)) (omega (arith, ints))
delay_long (negsuc m) low high = length_signed_le 7 (negsuc m) (omega (arith, ints)) (omega (arith, ints))

module _ (names : List (List ℕ)) (named : Named names) where
  name_long : (i : ℕ) → i < length names → length (get_or names i []) ≤ 12
  name_long i lt = (name_parts (get_or names i []) (All-get_or (λ n. is_name n ≡ true) names i [] lt named.well)).1

  terms_long : (f : List ℕ) (ts : List TermModel) → AllByRecursion (TermWithin (length names) delay_limit) ts
      → length (tabbed (f ∷ term_fields names ts)) ≤ length f + 22 * length ts
  terms_long f [] w = omega arith
  terms_long f (t ∷ ts) w =
      let a = get_or names t.from [] in
      let d = signed_decimal t.delay in
      let rest = terms_long d ts w.1 in
      omega (
        arith,
        length-append f (9 ∷ tabbed (term_fields names (t ∷ ts))),
        length-append a (9 ∷ tabbed (d ∷ term_fields names ts)),
        name_long t.from w.0.0,
        delay_long t.delay w.0.1 w.0.2,
        rest,
      )

  pub limit_long : (b : BoundModel) → Shaped names b → length (line_of (limit_fields names b)) ≤ 203
  limit_long b shaped =
      let kind = decimal b.kind in
      let k = decimal b.k in
      let to = get_or names b.to [] in
      let rest = terms_long to b.terms shaped.terms in
      let kindLong : length kind ≤ 3 = length-decimal-le 3 b.kind (omega arith) (omega (arith, shaped.kind)) (omega (arith, shaped.kind)) in
      let kLong : length k ≤ 3 = length-decimal-le 3 b.k (omega arith) (omega (arith, shaped.k)) (omega (arith, shaped.k)) in
      omega (
        arith,
        length_push (tabbed (limit_fields names b)) 10,
        length-append kind (9 ∷ tabbed (k ∷ to ∷ term_fields names b.terms)),
        length-append k (9 ∷ tabbed (to ∷ term_fields names b.terms)),
        rest,
        name_long b.to shaped.on,
        shaped.most,
      )

pub written_long : (s : PlainSheet) → Made s → length (written s) ≤ 53184
written_long s made =
    let events = length-joined (λ name. tabbed (event_fields name)) 19 s.names
    (All-weaker (λ n. is_name n ≡ true) (λ n. length (line_of (event_fields n)) ≤ 19) (λ n is. event_long n is) s.names made.named.well) in
    let limits = length-joined (λ b. tabbed (limit_fields s.names b)) 203 s.bounds
    (All-weaker (Shaped s.names) (λ b. length (line_of (limit_fields s.names b)) ≤ 203) (λ b h. limit_long s.names made.named b h) s.bounds made.shaped) in
    omega (
      arith,
      events,
      limits,
      made.few,
      made.most,
      length-append (flat_map (λ name. line_of (event_fields name)) s.names) (flat_map (λ b. line_of (limit_fields s.names b)) s.bounds),
    )

written_whole : (s : PlainSheet) → Made s → whole_text (written s) ≡ Ok tt
written_whole s made =
    cond-false (ltb 65536 (length (written s))) _ _ (le-ltb _ _ (omega (arith, written_long s made)))
    ∙ cond-true (finished (written s)) _ _
    (closed_finished (written s)
    (closed_append (flat_map (λ name. line_of (event_fields name)) s.names) (flat_map (λ b. line_of (limit_fields s.names b)) s.bounds)
    (closed_joined (λ name. tabbed (event_fields name)) s.names) (closed_joined (λ b. tabbed (limit_fields s.names b)) s.bounds)))

written_lines : (s : PlainSheet) → Made s
    → lines_of (written s) ≡ map (λ x. tabbed (event_fields x)) s.names ++ (map (λ b. tabbed (limit_fields s.names b)) s.bounds ++ [])
written_lines s made =
    let limits = flat_map (λ b. line_of (limit_fields s.names b)) s.bounds in
    lines_joined (λ x. tabbed (event_fields x)) s.names limits
    (All-weaker (λ n. is_name n ≡ true) _ (λ n is. line_lacks (event_fields n) (printable_event n is)) s.names made.named.well)
    ∙ ap (λ (ls : List (List ℕ)). map (λ x. tabbed (event_fields x)) s.names ++ ls)
    (ap lines_of (sym (append-nil limits))
    ∙ lines_joined (λ b. tabbed (limit_fields s.names b)) s.bounds []
    (All-weaker (Shaped s.names) _ (λ b h. line_lacks (limit_fields s.names b) (printable_limit s.names made.named b h)) s.bounds made.shaped))

pub round_trip : (admits : Admits) (slots : ℕ) (s : PlainSheet) → Made s → each (admitted admits) s.bounds ≡ true
    → loaded admits slots (written s) ≡ Ok (record { sheet = s; needs = [] })
round_trip admits slots s made lawful =
    ap (λ (r : Result (Unit {0}) TextFault). and_then (carried (λ f. Record (Text f)) r) (λ _. lines_add admits slots 1 start (lines_of (written s)))) (written_whole s made)
    ∙ ap (lines_add admits slots 1 start) (written_lines s made)
    ∙ events_add admits slots 1 [] s.names (map (λ b. tabbed (limit_fields s.names b)) s.bounds ++ []) made.named.well made.named.apart (omega (arith, made.few))
    ∙ limits-add admits slots s.names made.named (1 + length s.names) [] s.bounds [] made.shaped lawful (omega (arith, made.most))
