-- A word, and fields with a tab before each.
use Rattle.std.proofs.Common.{◌≡◌, ℕ, ◌+◌, ◌<◌, List, [], ◌∷◌, ◌++◌, map, length, get_or, take, sym, refl, ap, ◌∙◌, append_assoc}
use Rattle.std.proofs.lemmas.List.{map_more}
use Rattle.text.specs.Split.{tabbed}

tabbed_push : (word : List ℕ) (fs : List (List ℕ)) (f : List ℕ) → tabbed (word ∷ fs ++ (f ∷ [])) ≡ tabbed (word ∷ fs) ++ (9 ∷ f)
tabbed_push word [] f = refl
tabbed_push word (g ∷ fs) f = ap (λ (l : List ℕ). word ++ (9 ∷ l)) (tabbed_push g fs f) ∙ sym (append_assoc word (9 ∷ tabbed (g ∷ fs)) (9 ∷ f))

-- what is put so far: the text before, the word, and n fields
abbrev pub Put : {X : Type 0} → (X → List ℕ) → List ℕ → List ℕ → List X → ℕ → List ℕ → Type 0
Put g before word xs n out = out ≡ before ++ tabbed (word ∷ map g (take n xs))

-- one more, after its tab
pub put_next : {X : Type 0} (g : X → List ℕ) (before word here tab out : List ℕ) (xs : List X) (i : ℕ) (d : X)
    → i < length xs → Put g before word xs i here → tab ≡ here ++ (9 ∷ []) → out ≡ tab ++ g (get_or xs i d) → Put g before word xs (i + 1) out
put_next g before word here tab out xs i d lt inv t is =
    let more = ap (λ (fs : List (List ℕ)). tabbed (word ∷ fs)) (map_more g xs i d lt) ∙ tabbed_push word (map g (take i xs)) (g (get_or xs i d)) in
    is ∙ ap (λ (l : List ℕ). l ++ g (get_or xs i d)) t
    ∙ append_assoc here (9 ∷ []) (g (get_or xs i d)) ∙ ap (λ (l : List ℕ). l ++ (9 ∷ g (get_or xs i d))) inv
    ∙ append_assoc before (tabbed (word ∷ map g (take i xs))) (9 ∷ g (get_or xs i d)) ∙ sym (ap (λ (l : List ℕ). before ++ l) more)
