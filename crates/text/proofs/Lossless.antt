-- Lines put together again are the text, and fields the line.
use Rattle.std.proofs.Common.{◌≡◌, ℕ, suc, ◌-◌, ◌<◌, true, false, cond, eqb, List, [], ◌∷◌, ◌++◌, length, get_or, sym, refl, ap, ◌∙◌, ⊎_elim, arith}
use Rattle.std.specs.List.{flat_map, AllByRecursion}
use Rattle.std.proofs.lemmas.Bool.{eqb-true, cases_Bool, both_ways}
use Rattle.std.proofs.lemmas.Bool.Decides.{nat_tests}
use Rattle.std.proofs.lemmas.List.Splits.{join_with_byte-slice_split}
use Rattle.text.specs.Checks.{finished}
use Rattle.text.specs.Split.{onto, parted_by, fields_of, lines_of, Lacks, LinesMake, FieldsMake}
use Rattle.text.proofs.Splits.{ended_cut}

-- a byte that is no c, put in front of parts that lack c
onto_lacks : (c x : ℕ) (ps : List (List ℕ)) → eqb x c ≡ false → AllByRecursion (Lacks c) ps → AllByRecursion (Lacks c) (onto x ps)
onto_lacks c x [] e h = ((e, tt), tt)
onto_lacks c x (p ∷ ps) e h = ((e, h.0), h.1)

-- no part holds the byte at which the list was parted
parts_lack : (c : ℕ) (xs : List ℕ) → AllByRecursion (Lacks c) (parted_by c xs)
parts_lack c [] = (tt, tt)
parts_lack c (x ∷ xs) =
    ⊎_elim
    (λ (yes : eqb x c ≡ true). rw yes (tt, parts_lack c xs))
    (λ (no : eqb x c ≡ false). rw no (onto_lacks c x (parted_by c xs) no (parts_lack c xs)))
    (cases_Bool (eqb x c))

pub fields_make : (line : List ℕ) → FieldsMake line (fields_of line)
fields_make line = (join_with_byte-slice_split 9 line, parts_lack 9 line)

-- lines with their ends
abbrev text_of : List (List ℕ) → List ℕ
text_of lines = flat_map (λ l. l ++ (10 ∷ [])) lines

text-onto : (x : ℕ) (ls : List (List ℕ)) → 0 < length ls → text_of (onto x ls) ≡ x ∷ text_of ls
text-onto x [] h = absurd (omega arith)
text-onto x (l ∷ ls) h = refl

more_lines : (x : ℕ) (xs : List ℕ) (ls : List (List ℕ)) → (eqb x 10 ≡ false → 0 < length ls) → LinesMake xs ls → LinesMake (x ∷ xs) (cond (eqb x 10) ([] ∷ ls) (onto x ls))
more_lines x xs ls some ih =
    ⊎_elim
    (λ (yes : eqb x 10 ≡ true).
    let end : 10 ≡ x = sym (eqb-true x 10 yes) in
    rw yes (ap (λ (l : List ℕ). 10 ∷ l) ih.0 ∙ ap (λ (b : ℕ). b ∷ xs) end, (tt, ih.1)))
    (λ (no : eqb x 10 ≡ false).
    rw no (text-onto x ls (some no) ∙ ap (λ (l : List ℕ). x ∷ l) ih.0, onto_lacks 10 x ls no ih.1))
    (cases_Bool (eqb x 10))

finished_rest : (x y : ℕ) (ys : List ℕ) → finished (x ∷ y ∷ ys) ≡ true → finished (y ∷ ys) ≡ true
finished_rest x y ys h =
    let last : length (x ∷ y ∷ ys) - 1 ≡ suc (length (y ∷ ys) - 1) = omega arith in
    let at = ap (λ (n : ℕ). get_or (x ∷ y ∷ ys) n 0) last in
    grind (arith, nat_tests)

lines_some : (y : ℕ) (ys : List ℕ) → 0 < length (lines_of (y ∷ ys))
lines_some y ys = omega (arith, ap length (ended_cut 10 y ys))

pub lines_make : (text : List ℕ) → finished text ≡ true → LinesMake text (lines_of text)
lines_make [] h = (refl, tt)
lines_make (x ∷ []) h = more_lines x [] [] (λ no. absurd (both_ways (eqb x 10) no h)) (refl, tt)
lines_make (x ∷ y ∷ ys) h = more_lines x (y ∷ ys) (lines_of (y ∷ ys)) (λ no. lines_some y ys) (lines_make (y ∷ ys) (finished_rest x y ys h))
