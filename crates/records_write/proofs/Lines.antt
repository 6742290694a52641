-- Fields of printable bytes, put on a line with tabs between them, come apart again, and so do lines in a text.
use Rattle.std.proofs.Common.{◌≡◌, ℕ, suc, ◌+◌, ◌-◌, ◌*◌, ◌^◌, ◌<◌, ◌≤◌, Bool, true, false, ◌&&◌, eqb, leb, ◌⊎◌, List, [], ◌∷◌, ◌++◌, map, length, get_or, ℤ, pos, negsuc, decimal, refl, sym, ap, subst, ◌∙◌, inl, inr, append_assoc, arith}
use lib.Signed.{mag}
use Rattle.std.specs.Char.{is_ascii_digit}
use Rattle.std.specs.Fmt.{signed_decimal}
use Rattle.std.specs.List.{flat_map, All, AllPass, AllByRecursion}
use Rattle.std.specs.Str.{all_ascii_digits}
use Rattle.std.proofs.lemmas.Fmt.{digits_decimal}
use Rattle.std.proofs.ByRecursion.{All-append, All-weaker}
use Rattle.std.proofs.lemmas.List.{append-nil, length-append, length_push, get_or_push, get_or-append_right}
use Rattle.std.proofs.lemmas.List.Concat.{length-flat_map}
use Rattle.std.proofs.lemmas.List.Elements.{All-from_recursion, recursion_from_All}
use Rattle.std.proofs.lemmas.List.Folds.{list_all-append}
use Rattle.std.proofs.lemmas.List.Recursion.{and_at}
use Rattle.std.proofs.lemmas.List.Splits.{slice_split_none, slice_split_at}
use Rattle.std.proofs.lemmas.List.Sums.{AllPass-from_list_all, list_all-from_AllPass, sum_by-le}
use Rattle.std.proofs.lemmas.Str.Parse.{numerals_by_value, tells_all_ascii_digits}
use Rattle.std.proofs.lemmas.Bool.{cond-false, ne_eqb, and_parts, and_from}
use Rattle.std.proofs.lemmas.Bool.Decides.{nat_tests}
use Rattle.text.specs.Checks.{each, allowed, finished}
use Rattle.text.specs.Names.{name_byte, is_name}
use Rattle.text.specs.Split.{onto, lines_of, fields_of, Lacks, tabbed}

-- bytes that may stand in a field
abbrev pub Printable : List ℕ → Type 0
Printable f = AllByRecursion (λ b. (32 ≤ b) × (b ≤ 126)) f

printable_lacks : (c : ℕ) → c < 32 → (f : List ℕ) → Printable f → Lacks c f
printable_lacks c small f = All-weaker _ (λ b. eqb b c ≡ false) (λ b p. ne_eqb b c (λ e. omega (arith, p.0))) f

lacked : (c : ℕ) (f : List ℕ) → Lacks c f → All (λ b. eqb b c ≡ false) f
lacked c f h = All-from_recursion (λ b. eqb b c ≡ false) f h

printable_allowed : (f : List ℕ) → Printable f → each allowed f ≡ true
printable_allowed f h =
    list_all-from_AllPass allowed f
    (All-from_recursion (λ b. allowed b ≡ true) f
    (All-weaker (λ b. (32 ≤ b) × (b ≤ 126)) (λ b. allowed b ≡ true) (λ b p. let low = p.0 in let high = p.1 in grind (arith, nat_tests)) f h))

-- names and numerals are printable
printable_byte : (b : ℕ) → name_byte b ≡ true → (32 ≤ b) × (b ≤ 126)
printable_byte b h = (grind (arith, nat_tests), grind (arith, nat_tests))

-- bytes that all pass a test, as the bytes of names and numerals do
passing : (test : ℕ → Bool) → ((b : ℕ) → test b ≡ true → (32 ≤ b) × (b ≤ 126)) → (f : List ℕ) → AllPass test f → Printable f
passing test each_is f h = recursion_from_All (λ b. (32 ≤ b) × (b ≤ 126)) f (λ k d lt. each_is (get_or f k d) (h k d lt))

pub name_parts : (f : List ℕ) → is_name f ≡ true → (1 ≤ length f) × (length f ≤ 12) × (each name_byte f ≡ true)
name_parts f h =
    let p = and_parts (leb 1 (length f)) (leb (length f) 12 && each name_byte f) h in
    let q = and_parts (leb (length f) 12) (each name_byte f) p.1 in
    (grind (arith, nat_tests), grind (arith, nat_tests), q.1)

pub printable_name : (f : List ℕ) → is_name f ≡ true → Printable f
printable_name f h = passing name_byte printable_byte f (AllPass-from_list_all name_byte f (name_parts f h).2)

printable_digit : (d : ℕ) → is_ascii_digit d ≡ true → (32 ≤ d) × (d ≤ 126)
printable_digit d e = (grind (arith, nat_tests), grind (arith, nat_tests))

pub printable_decimal : (n : ℕ) → n < 2 ^ 64 → Printable (decimal n)
printable_decimal n h =
    passing is_ascii_digit printable_digit (decimal n) (λ k d lt.
    and_at all_ascii_digits is_ascii_digit refl (λ _ _. refl) (decimal n) k d lt
    (digits_decimal (numerals_by_value (λ (ds : List ℕ). all_ascii_digits ds ≡ true) tells_all_ascii_digits) n h))

pub printable_signed : (z : ℤ) → mag z < 2 ^ 63 → Printable (signed_decimal z)
printable_signed (pos n) h = printable_decimal n (omega arith)
printable_signed (negsuc n) h = ((omega arith, omega arith), printable_decimal (suc n) (omega arith))

pub fields_tabbed : (f : List ℕ) (fs : List (List ℕ)) → AllByRecursion Printable (f ∷ fs) → fields_of (tabbed (f ∷ fs)) ≡ f ∷ fs
fields_tabbed f [] h = slice_split_none (λ b. eqb b 9) f (lacked 9 f (printable_lacks 9 (omega arith) f h.0))
fields_tabbed f (g ∷ gs) h =
    slice_split_at (λ b. eqb b 9) f 9 (tabbed (g ∷ gs)) (lacked 9 f (printable_lacks 9 (omega arith) f h.0)) refl
    ∙ ap (λ (ps : List (List ℕ)). f ∷ ps) (fields_tabbed g gs h.1)

pub line_allowed : (fs : List (List ℕ)) → AllByRecursion Printable fs → each allowed (tabbed fs) ≡ true
line_allowed [] h = refl
line_allowed (f ∷ []) h = printable_allowed f h.0
line_allowed (f ∷ g ∷ gs) h =
    list_all-append allowed f (9 ∷ tabbed (g ∷ gs))
    ∙ and_from (each allowed f) (each allowed (9 ∷ tabbed (g ∷ gs))) (printable_allowed f h.0) (line_allowed (g ∷ gs) h.1)

pub line_lacks : (fs : List (List ℕ)) → AllByRecursion Printable fs → Lacks 10 (tabbed fs)
line_lacks [] h = tt
line_lacks (f ∷ []) h = printable_lacks 10 (omega arith) f h.0
line_lacks (f ∷ g ∷ gs) h =
    All-append (λ x. eqb x 10 ≡ false) f (9 ∷ tabbed (g ∷ gs)) (printable_lacks 10 (omega arith) f h.0) (refl, line_lacks (g ∷ gs) h.1)

line_first : (l rest : List ℕ) → Lacks 10 l → lines_of (l ++ (10 ∷ rest)) ≡ l ∷ lines_of rest
line_first [] rest h = refl
line_first (x ∷ l) rest h = cond-false (eqb x 10) _ _ h.0 ∙ ap (onto x) (line_first l rest h.1)

module _ {X : Type 0} (g : X → List ℕ) where
  abbrev ended : X → List ℕ
  ended x = g x ++ (10 ∷ [])

  pub lines_joined : (xs : List X) (rest : List ℕ) → AllByRecursion (λ x. Lacks 10 (g x)) xs → lines_of (flat_map ended xs ++ rest) ≡ map g xs ++ lines_of rest
  lines_joined [] rest h = refl
  lines_joined (x ∷ xs) rest h =
      ap lines_of (append_assoc (ended x) (flat_map ended xs) rest ∙ append_assoc (g x) (10 ∷ []) (flat_map ended xs ++ rest))
      ∙ line_first (g x) (flat_map ended xs ++ rest) h.0 ∙ ap (λ (ls : List (List ℕ)). g x ∷ ls) (lines_joined xs rest h.1)

  pub length-joined : (m : ℕ) (xs : List X) → AllByRecursion (λ x. length (ended x) ≤ m) xs → length (flat_map ended xs) ≤ length xs * m
  length-joined m xs h =
      subst (λ (n : ℕ). n ≤ length xs * m) (sym (length-flat_map ended xs))
      (sum_by-le (λ x. length (ended x)) m xs (All-from_recursion (λ x. length (ended x) ≤ m) xs h))

-- a text that is empty or ends with byte 10
abbrev pub Closed : List ℕ → Type 0
Closed t = (length t ≡ 0) ⊎ (get_or t (length t - 1) 0 ≡ 10)

pub closed_finished : (t : List ℕ) → Closed t → finished t ≡ true
closed_finished t c = grind (arith, nat_tests)

closed_line : (l : List ℕ) → Closed (l ++ (10 ∷ []))
closed_line l = inr (get_or_push l 10 0 (length (l ++ (10 ∷ [])) - 1) (omega (arith, length_push l 10)))

pub closed_append : (s t : List ℕ) → Closed s → Closed t → Closed (s ++ t)
closed_append s [] c d = rw (append-nil s) c
closed_append s (x ∷ t) c (inl e) = absurd (omega arith)
closed_append s (x ∷ t) c (inr e) =
    let n : length (s ++ (x ∷ t)) ≡ length s + suc (length t) = length-append s (x ∷ t) in
    inr (get_or-append_right s (x ∷ t) (length s) (length (s ++ (x ∷ t)) - 1) 0 refl (omega arith) ∙ (ap (λ (i : ℕ). get_or (x ∷ t) i 0) (omega arith) ∙ e))

pub closed_joined : {X : Type 0} (g : X → List ℕ) (xs : List X) → Closed (flat_map (λ x. g x ++ (10 ∷ [])) xs)
closed_joined g [] = inl refl
closed_joined {X} g (x ∷ xs) = closed_append (g x ++ (10 ∷ [])) (flat_map (λ (y : X). g y ++ (10 ∷ [])) xs) (closed_line (g x)) (closed_joined g xs)
