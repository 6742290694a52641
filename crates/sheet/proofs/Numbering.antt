-- The number of a name: the place that is found for it, and that every event has its own.
use Rattle.std.proofs.Common.{◌≡◌, ℕ, zero, suc, ◌+◌, ◌<◌, Bool, true, false, cond, not, ltb, List, [], ◌∷◌, map, length, get_or, is_some, Some, None, Option, refl, ap, ◌∙◌, position, arith}
use Rattle.std.specs.List.{position_or_len}
use Rattle.std.specs.Option.{option_map}
use Rattle.std.specs.Str.{bytes_eq}
use Rattle.std.proofs.lemmas.Slice.Eq.{bytes_eq-Decides}
use Rattle.std.proofs.lemmas.Bool.{cond-true, cond-false, both_ways, true≢false, false_from_ne_true}
use Rattle.std.proofs.lemmas.Bool.Decides.{nat_tests}
use Rattle.sheet.specs.Plain.{number_in}
use Rattle.sheet.specs.Sound.{Distinct}

-- the first place at which a test passes, after one more item
one-more : (t : Bool) (p n : ℕ) (o : Option ℕ) → cond (ltb p n) (Some p) None ≡ o
    → cond (ltb (cond (not t) (1 + p) 0) (suc n)) (Some (cond (not t) (1 + p) 0)) None ≡ cond t (Some 0) (option_map (λ i. i + 1) o)
one-more true p n o e = grind (arith, nat_tests)
one-more false p n o e = grind (arith, nat_tests)

-- the place of the first name that is spelled so is its number
pub number_of_place : {X : Type 0} (f : X → List ℕ) (xs : List X) (name : List ℕ) → position (λ x. bytes_eq (f x) name) xs ≡ number_in (map f xs) name
number_of_place f [] name = refl
number_of_place f (x ∷ xs) name =
    one-more (bytes_eq (f x) name) (position_or_len (λ y. bytes_eq (f y) name) xs) (length xs) (number_in (map f xs) name) (number_of_place f xs name)

none-parts : (b : Bool) (o : Option ℕ) → is_some (cond b (Some 0) (option_map (λ i. i + 1) o)) ≡ false → (b ≡ false) × (is_some o ≡ false)
none-parts true o e = absurd (true≢false e)
none-parts false None e = (refl, refl)
none-parts false (Some i) e = absurd (true≢false e)

-- a name without a number is none of the names
pub no_number : (ns : List (List ℕ)) (n : List ℕ) → is_some (number_in ns n) ≡ false → (i : ℕ) → i < length ns → get_or ns i [] ≡ n → ⊥
no_number [] n e i lt eq = omega arith
no_number (m ∷ ms) n e zero lt eq = both_ways (bytes_eq m n) (none-parts (bytes_eq m n) (number_in ms n) e).0 ((bytes_eq-Decides m n).1 eq)
no_number (m ∷ ms) n e (suc i) lt eq = no_number ms n (none-parts (bytes_eq m n) (number_in ms n) e).1 i (omega arith) eq

-- where names are distinct, each event is found by its name
pub number_of_name : (ns : List (List ℕ)) → Distinct ns → (i : ℕ) → i < length ns → number_in ns (get_or ns i []) ≡ Some i
number_of_name [] d i lt = absurd (omega arith)
number_of_name (m ∷ ms) d zero lt = cond-true (bytes_eq m m) _ _ ((bytes_eq-Decides m m).1 refl)
number_of_name (m ∷ ms) d (suc i) lt =
    let other = false_from_ne_true (bytes_eq m (get_or ms i [])) (λ e. d 0 (suc i) (omega arith) (omega arith) ((bytes_eq-Decides m (get_or ms i [])).0 e)) in
    let rest = number_of_name ms (λ a b l h e. d (suc a) (suc b) (omega arith) (omega arith) e) i (omega arith) in
    let next : i + 1 ≡ suc i = omega arith in
    cond-false (bytes_eq m (get_or ms i [])) _ _ other ∙ ap (option_map (λ j. j + 1)) rest ∙ ap Some next
