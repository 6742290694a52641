-- The checks find no fault exactly in a text whose every byte may stand there.
use Rattle.std.proofs.Common.{◌≡◌, ℕ, ◌+◌, ◌≤◌, Bool, true, false, ◌&&◌, eqb, ltb, List, [], ◌∷◌, length, Ok, sym, refl, ap, ◌∙◌, ⊎_elim, arith}
use Rattle.std.proofs.Math.Bool.{and_assoc}
use Rattle.std.proofs.lemmas.Bool.{cases_Bool, and_from, and_parts, ltb-false, le-ltb}
use Rattle.text.specs.Checks.{allowed, each, finished, text_byte, lines_bytes, text_fault, FaultExactly}
use Rattle.text.specs.Split.{onto, lines_of}

onto-allowed : (x : ℕ) (ls : List (List ℕ)) → each (each allowed) (onto x ls) ≡ (allowed x && each (each allowed) ls)
onto-allowed x [] = and_assoc (allowed x) true true
onto-allowed x (l ∷ ls) = and_assoc (allowed x) (each allowed l) (each (each allowed) ls)

-- the bytes of the lines are those of the text without its ends
lines_allowed : (xs : List ℕ) → each (each allowed) (lines_of xs) ≡ each text_byte xs
lines_allowed [] = refl
lines_allowed (x ∷ xs) =
    ⊎_elim
    (λ (yes : eqb x 10 ≡ true). rw yes (lines_allowed xs))
    (λ (no : eqb x 10 ≡ false). rw no (onto-allowed x (lines_of xs) ∙ ap (λ (b : Bool). allowed x && b) (lines_allowed xs)))
    (cases_Bool (eqb x 10))

lines_ok : (n : ℕ) (ls : List (List ℕ)) → each (each allowed) ls ≡ true → lines_bytes n ls ≡ Ok tt
lines_ok n [] h = refl
lines_ok n (l ∷ ls) h =
    let p = and_parts (each allowed l) (each (each allowed) ls) h in
    rw p.0 (lines_ok (n + 1) ls p.1)

ok_lines : (n : ℕ) (ls : List (List ℕ)) → lines_bytes n ls ≡ Ok tt → each (each allowed) ls ≡ true
ok_lines n [] h = refl
ok_lines n (l ∷ ls) h =
    ⊎_elim
    (λ (yes : each allowed l ≡ true). and_from _ _ yes (ok_lines (n + 1) ls (rw yes at h)))
    (λ (no : each allowed l ≡ false). let bad = rw no at h in absurd (grind arith))
    (cases_Bool (each allowed l))

-- the rest of the checks, where the text as a whole passes
rest_of : (text : List ℕ) → length text ≤ 65536 → finished text ≡ true → text_fault text ≡ lines_bytes 1 (lines_of text)
rest_of text short end =
    rw (le-ltb 65536 (length text) short, end) refl

whole_ok : (text : List ℕ) → text_fault text ≡ Ok tt → (length text ≤ 65536) × (finished text ≡ true)
whole_ok text h =
    ⊎_elim
    (λ (long : ltb 65536 (length text) ≡ true). let bad = rw long at h in absurd (grind arith))
    (λ (short : ltb 65536 (length text) ≡ false).
    ⊎_elim
    (λ (end : finished text ≡ true). (ltb-false 65536 (length text) short, end))
    (λ (open' : finished text ≡ false). let bad = rw (short, open') at h in absurd (grind arith))
    (cases_Bool (finished text)))
    (cases_Bool (ltb 65536 (length text)))

pub clean_exactly : (text : List ℕ) → FaultExactly text (text_fault text)
clean_exactly text = (
  (λ ok. let w = whole_ok text ok in
      record { short = w.0; ended = w.1; bytes = sym (lines_allowed text) ∙ ok_lines 1 (lines_of text) (sym (rest_of text w.0 w.1) ∙ ok) }),
  (λ clean. rest_of text clean.short clean.ended ∙ lines_ok 1 (lines_of text) (lines_allowed text ∙ clean.bytes)),
)
