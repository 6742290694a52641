-- The timetables that keep the bounds of a record are those that the record means, under every lawful rule set.
use Rattle.std.proofs.Common.{◌≡◌, ℕ, zero, suc, ◌<◌, Bool, true, false, cond, List, [], ◌∷◌, map, length, get_or, ℤ, ◌+ℤ◌, neg_ℤ, ◌≤ℤ◌, Some, None, Option, sym, ◌∙◌, subst, ap₂, ⊎_elim, arith}
use Rattle.std.specs.List.{AllByRecursion}
use Rattle.std.proofs.ByRecursion.{All-append}
use Rattle.std.proofs.lemmas.List.{length-map}
use Rattle.std.proofs.lemmas.Int.{ints}
use Rattle.std.proofs.lemmas.Bool.{cases_Bool, both_ways}
use Rattle.rules.specs.Laws.{Admits, Enough, Laws}
use Rattle.rules.specs.Masks.{mask_by}
use Rattle.rules.proofs.Masks.{mask_lt, mask_map}
use Rattle.timing.specs.Timetables.{Timetable, allows, Keeps, KeepsAll}
use Rattle.timing.specs.Bounds.{term_of}
use Rattle.timing.proofs.Keeping.{le_true, true_le}
use Rattle.records.specs.declared.entry.Input.{Input}
use Rattle.records.specs.Entries.{plain_bound, low_bound, high_bound, high_term, low_bounds}
use Rattle.records.proofs.Calls.{all-parts}
use Rattle.records.specs.Meanings.{Same, NotBefore, NotAfter, LinearMeans, DelayMeans, LimitMeans}

-- some element of a list passes a test: then its mask is not 0, and the other way round
abbrev Some-passes : {X : Type 0} → (X → Bool) → List X → Type 0
Some-passes {X} p xs = (i : ℕ) × (i < length xs) × ((d : X) → p (get_or xs i d) ≡ true)

module _ {X : Type 0} (p : X → Bool) where
  mask_some : (xs : List X) → Some-passes p xs → 0 < mask_by p xs
  mask_some [] (i, lt, h) = absurd (omega arith)
  mask_some (x ∷ xs) (zero, lt, h) = rw (h x) (omega arith)
  mask_some (x ∷ xs) (suc i, lt, h) = let ih = mask_some xs (i, omega arith, h) in omega arith

  some_mask : (xs : List X) → 0 < mask_by p xs → Some-passes p xs
  some_mask [] h = absurd (omega arith)
  some_mask (x ∷ xs) h =
      ⊎_elim
      (λ (yes : p x ≡ true). (0, omega arith, λ d. yes))
      (λ (no : p x ≡ false).
      let none : ◌≡◌ {A = ℕ} (cond (p x) 1 0) 0 = rw no in
      let rest = some_mask xs (omega arith) in
      (suc rest.0, omega (arith, rest.1), rest.2))
      (cases_Bool (p x))

module _ {A : Admits} {E : Enough} (laws : Laws A E) where
  -- kind 0: a set is enough just when it is not empty
  latest_some : (n a : ℕ) → E 0 0 n a ≡ true → 0 < a
  latest_some n zero e = absurd (both_ways _ (laws.empty 0 0 n) e)
  latest_some n (suc a) e = omega arith

  -- a bound of one term
  module _ (t : Timetable) (to from : ℕ) (d : ℤ) where
    kept-plain : Keeps E t (plain_bound to from d) → t to ≤ℤ (t from +ℤ d)
    kept-plain e =
        let some = some_mask (allows t to) (record { from = from; delay = d } ∷ []) (latest_some 1 _ e) in
        true_le (t to) (t from +ℤ d) (first some.0 some.1 (some.2 (record { from = from; delay = d })))
      where
        first : (i : ℕ) → i < 1 → allows t to (get_or (record { from = from; delay = d } ∷ []) i (record { from = from; delay = d })) ≡ true → allows t to (record { from = from; delay = d }) ≡ true
        first zero lt h = h
        first (suc i) lt h = absurd (omega arith)

    plain-kept : t to ≤ℤ (t from +ℤ d) → Keeps E t (plain_bound to from d)
    plain-kept h =
        laws.any 1 _ (omega arith) (omega arith)
        (mask_some (allows t to) (record { from = from; delay = d } ∷ []) (0, omega arith, λ e. le_true (t to) (t from +ℤ d) h))
        (mask_lt (allows t to) (record { from = from; delay = d } ∷ []))

  low_means : (t : Timetable) (from to : ℕ) (low : Option ℤ) → Same (KeepsAll E (low_bound from to low) t) (NotBefore t from to low)
  low_means t from to None = (λ _. tt, λ _. tt)
  low_means t from to (Some low) =
      (λ k. let h = kept-plain t from to (neg_ℤ low) k.0 in omega (arith, ints), λ h. (plain-kept t from to (neg_ℤ low) (omega (arith, ints)), tt))

  high_means : (t : Timetable) (from to : ℕ) (high : Option ℤ) → Same (KeepsAll E (high_bound from to high) t) (NotAfter t from to high)
  high_means t from to None = (λ _. tt, λ _. tt)
  high_means t from to (Some high) = (λ k. kept-plain t to from high k.0, λ h. (plain-kept t to from high h, tt))

  pub linear_means : LinearMeans E
  linear_means from to low high t = (
    (λ k. let p = all-parts (Keeps E t) (low_bound from to low) (high_bound from to high) k in
        ((low_means t from to low).0 p.0, (high_means t from to high).0 p.1)),
    (λ h. All-append (Keeps E t) (low_bound from to low) (high_bound from to high) ((low_means t from to low).1 h.0) ((high_means t from to high).1 h.1)),
  )

  lows_mean : (t : Timetable) (to : ℕ) (inputs : List Input)
      → Same (KeepsAll E (low_bounds to inputs) t) (AllByRecursion (λ i. NotBefore t i.from to i.low) inputs)
  lows_mean t to [] = (λ _. tt, λ _. tt)
  lows_mean t to (i ∷ is) =
      let rest = lows_mean t to is in
      let this = low_means t i.from to i.low in (
        (λ k. let p = all-parts (Keeps E t) (low_bound i.from to i.low) (low_bounds to is) k in (this.0 p.0, rest.0 p.1)),
        (λ h. All-append (Keeps E t) (low_bound i.from to i.low) (low_bounds to is) (this.1 h.0) (rest.1 h.1)),
      )

  pub delay_means : DelayMeans E
  delay_means to inputs t one eight =
      let long : length (map high_term inputs) ≡ length inputs = length-map inputs high_term in
      let mask : mask_by (allows t to) (map high_term inputs) ≡ mask_by (λ i. allows t to (high_term i)) inputs = mask_map (allows t to) high_term inputs in (
        (λ k.
            let some = some_mask (λ (i : Input). allows t to (high_term i)) inputs
            (subst (λ (m : ℕ). 0 < m) mask (latest_some _ _ k.0)) in
            ((some.0, some.1, λ d. true_le _ _ (some.2 d)), (lows_mean t to inputs).0 k.1)),
        (λ h. (
          rw (long, mask)
              (laws.any (length inputs) _ one eight
              (mask_some (λ (i : Input). allows t to (high_term i)) inputs (h.0.0, h.0.1, λ d. le_true _ _ (h.0.2 d)))
              (mask_lt (λ (i : Input). allows t to (high_term i)) inputs)),
          (lows_mean t to inputs).1 h.1,
        )),
      )

pub limit_means : (E : Enough) → LimitMeans E
limit_means E kind k to terms t =
    let same : E kind k (length (map term_of terms)) (mask_by (allows t to) (map term_of terms))
    ≡ E kind k (length terms) (mask_by (λ m. allows t to (term_of m)) terms) = ap₂ (E kind k) (length-map terms term_of) (mask_map (allows t to) term_of terms) in
    ((λ h. sym same ∙ h.0), (λ h. (same ∙ h, tt)))
