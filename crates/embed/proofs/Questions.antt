-- One question to the sheet of a text.
use Rattle.std.proofs.Common.{◌≡◌, ℕ, ◌+◌, ◌<◌, Bool, true, false, cond, List, [], ◌∷◌, length, Some, None, Option, sym, subst, arith}
use Rattle.std.specs.Option.{option_map}
use Rattle.std.specs.Str.{bytes_eq}
use Rattle.sheet.specs.Plain.{number_in}

-- a number that is found is one of the list
abbrev Within : ℕ → Option ℕ → Type 0
Within n (Some i) = i < n
Within n None = Unit {0}

number_within : (ns : List (List ℕ)) (name : List ℕ) → Within (length ns) (number_in ns name)
number_within [] name = tt
number_within (m ∷ ms) name = go (bytes_eq m name) (number_in ms name) (number_within ms name)
  where
    go : (same : Bool) (o : Option ℕ) → Within (length ms) o → Within (length (m ∷ ms)) (cond same (Some 0) (option_map (λ i. i + 1) o))
    go true o h = omega arith
    go false (Some i) h = omega arith
    go false None h = tt

pub number_below : (ns : List (List ℕ)) (name : List ℕ) (i : ℕ) → Some i ≡ number_in ns name → i < length ns
number_below ns name i e = subst (Within (length ns)) (sym e) (number_within ns name)
