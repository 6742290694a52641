-- The knot is contradictory, no bound of it can be left out, a sheet has one, and trying bound after bound finds it.
use Rattle.std.proofs.Common.{◌≡◌, ℕ, zero, suc, ◌+◌, ◌<◌, ◌≤◌, Bool, true, false, ◌⊎◌, List, length, sym, ap, ◌∙◌, inl, inr, arith, below_more}
use Rattle.std.proofs.ByRecursion.{All-from_get_or}
use Rattle.std.proofs.lemmas.Bool.{cases_lt, cases_Bool, cases_order, both_ways}
use Rattle.rules.specs.Laws.{Enough}
use Rattle.timing.specs.Model.{BoundModel}
use Rattle.timing.specs.Timetables.{Timetable, Keeps, KeepsAll, Contradictory}
use Rattle.timing.specs.Knots.{no_bound, those, AdmitOne, AdmitNone, Remaining, Knot}
use Rattle.timing.proofs.Pigeonhole.{below_suc}
use Rattle.timing.proofs.Those.{those_in, those_out}

-- the fewer bounds, the more they admit
admit_none_more : (E : Enough) (bs : List BoundModel) (In Out : ℕ → Type 0) → ((j : ℕ) → j < length bs → In j → Out j) → AdmitNone E bs In → AdmitNone E bs Out
admit_none_more E bs In Out f none t keeps = none t (λ j l r. keeps j l (f j l r))

admit_one_less : (E : Enough) (bs : List BoundModel) (In Out : ℕ → Type 0) → ((j : ℕ) → j < length bs → Out j → In j) → AdmitOne E bs In → AdmitOne E bs Out
admit_one_less E bs In Out f one = (one.0, λ j l r. one.1 j l (f j l r))

module _ (E : Enough) (bs : List BoundModel) (knot : ℕ → Bool) (is : Knot E bs knot) where
  -- what stands when the bound i is about to be tried: of the earlier ones those in the knot, and all others
  abbrev Standing : ℕ → ℕ → Type 0
  Standing i j = ((j < i) × (knot j ≡ true)) ⊎ (i ≤ j)

  -- each trial leaves a contradiction
  standing : Contradictory E bs → (i : ℕ) → i ≤ length bs → AdmitNone E bs (Standing i)
  standing none zero h = λ t keeps. none t (All-from_get_or (Keeps E t) bs no_bound (λ j l. keeps j l (inr (omega arith))))
  standing none (suc i) h =
      elim (cases_Bool (knot i)) [
        | inl q ↦ admit_none_more E bs (Standing i) (Standing (suc i)) (kept q) (standing none i (omega arith))
        | inr q ↦ admit_none_more E bs (Remaining knot i) (Standing (suc i)) (λ j l r. elim r [ inl u ↦ inl (omega arith, u.1) | inr u ↦ inr u ]) (is.goes i h q)
      ]
    where
      kept : knot i ≡ true → (j : ℕ) → j < length bs → Standing i j → Standing (suc i) j
      kept q j l (inl u) = inl (omega arith, u.1)
      kept q j l (inr u) = elim (cases_lt i j) [ inl g ↦ inr g | inr g ↦ (let e : j ≡ i = omega arith in inl (omega arith, ap knot e ∙ q)) ]

  pub knot_contradictory : Contradictory E bs → AdmitNone E bs (λ j. knot j ≡ true)
  knot_contradictory none t keeps =
      standing none (length bs) (omega arith) t (λ j l r. keeps j l (elim r [ inl u ↦ u.1 | inr u ↦ absurd (omega arith) ]))

  -- what remained when a bound of it was tried contains what is left of it
  pub knot_least : (i : ℕ) → i < length bs → knot i ≡ true → AdmitOne E bs (λ j. (knot j ≡ true) × (j ≡ i → ⊥))
  knot_least i h k =
      admit_one_less E bs (Remaining knot i) (λ j. (knot j ≡ true) × (j ≡ i → ⊥))
      (λ j l u. elim (cases_order j i) [ inl e ↦ absurd (u.1 e) | inr c ↦ elim c [ inl g ↦ inl (g, u.0) | inr g ↦ inr g ] ])
      (is.stays i h k)

-- two knots that agree below n agree at n
not_apart : (E : Enough) (bs : List BoundModel) (K L : ℕ → Bool) → Knot E bs K → Knot E bs L
    → (n : ℕ) → n < length bs → ((i : ℕ) → i < n → K i ≡ L i) → K n ≡ true → L n ≡ false → ⊥
not_apart E bs K L p q n hn same k l =
    let one = p.stays n hn k in
    q.goes n hn l one.0 (λ j h u. one.1 j h (elim u [ inl v ↦ inl (v.0, same j v.0 ∙ v.1) | inr v ↦ inr v ]))

pub knot_unique : (E : Enough) (bs : List BoundModel) (K L : ℕ → Bool) → Knot E bs K → Knot E bs L → (n : ℕ) → n ≤ length bs → (i : ℕ) → i < n → K i ≡ L i
knot_unique E bs K L p q zero hn = λ i h. absurd (omega arith)
knot_unique E bs K L p q (suc n) hn =
    let same = knot_unique E bs K L p q n (omega arith) in
    below_suc (λ i. K i ≡ L i) n same
    (elim (cases_Bool (K n)) [
      | inl k ↦ elim (cases_Bool (L n)) [ inl l ↦ k ∙ sym l | inr l ↦ absurd (not_apart E bs K L p q n hn same k l) ]
      | inr k ↦ elim (cases_Bool (L n)) [ inl l ↦ absurd (not_apart E bs L K q p n hn (λ i h. sym (same i h)) l k) | inr l ↦ k ∙ sym l ]
    ])

-- the bounds below i have been tried, and the flags say which of them stay; all others still stand
pub record Trying (E : Enough) (bs : List BoundModel) (flags : ℕ → Bool) (i : ℕ) : Type 0 where
  pub later : (j : ℕ) → i ≤ j → j < length bs → flags j ≡ true
  pub stays : (j : ℕ) → j < i → flags j ≡ true → AdmitOne E bs (Remaining flags j)
  pub goes : (j : ℕ) → j < i → flags j ≡ false → AdmitNone E bs (Remaining flags j)

module _ (E : Enough) (bs : List BoundModel) where
  pub trying_start : (flags : ℕ → Bool) → ((j : ℕ) → j < length bs → flags j ≡ true) → Trying E bs flags 0
  trying_start flags all = record { later = λ j _ h. all j h; stays = λ j h. absurd (omega arith); goes = λ j h. absurd (omega arith) }

  pub trying_end : (flags : ℕ → Bool) (i : ℕ) → length bs ≤ i → Trying E bs flags i → Knot E bs flags
  trying_end flags i h trying = record { stays = λ j l. trying.stays j (omega arith); goes = λ j l. trying.goes j (omega arith) }

  -- what remains at j depends on the flags below j alone
  remaining_like : (K L : ℕ → Bool) (j m : ℕ) → ((n : ℕ) → n < j → L n ≡ K n) → Remaining K j m → Remaining L j m
  remaining_like K L j m same (inl r) = inl (r.0, same m r.0 ∙ r.1)
  remaining_like K L j m same (inr r) = inr r

  -- the bound i is tried: `without` stands for the flags K with i out, and K' for the flags after the trial
  pub trying_step : (K without K' : ℕ → Bool) (i : ℕ) → i < length bs → Trying E bs K i
      → without i ≡ false → ((j : ℕ) → (j ≡ i → ⊥) → without j ≡ K j) → ((j : ℕ) → (j ≡ i → ⊥) → K' j ≡ K j)
      → (K' i ≡ true → (t : Timetable) × KeepsAll E (those without bs) t) → (K' i ≡ false → Contradictory E (those without bs)) → Trying E bs K' (i + 1)
  trying_step K without K' i hi trying out else after some none =
      record {
        later = λ j l h. after j (omega arith) ∙ trying.later j (omega arith) h;
        stays = below_more (λ j. K' j ≡ true → AdmitOne E bs (Remaining K' j)) i
            (λ j l c. admit_one_less E bs (Remaining K j) (Remaining K' j) (λ m _. remaining_like K' K j m (λ n g. sym (after n (omega arith))))
            (trying.stays j l (sym (after j (omega arith)) ∙ c)))
            (λ c. let r = some c in (r.0, λ m l q. those_out (Keeps E r.0) without bs no_bound r.1 m l (stands m l q)));
        goes = below_more (λ j. K' j ≡ false → AdmitNone E bs (Remaining K' j)) i
            (λ j l c. admit_none_more E bs (Remaining K j) (Remaining K' j) (λ m _. remaining_like K K' j m (λ n g. after n (omega arith)))
            (trying.goes j l (sym (after j (omega arith)) ∙ c)))
            (λ c t keeps. none c t (those_in (Keeps E t) without bs no_bound (λ m l q. keeps m l (remains m q))));
      }
    where
      stands : (m : ℕ) → m < length bs → Remaining K' i m → without m ≡ true
      stands m l (inl r) = else m (omega arith) ∙ sym (after m (omega arith)) ∙ r.1
      stands m l (inr r) = else m (omega arith) ∙ trying.later m (omega arith) l

      remains : (m : ℕ) → without m ≡ true → Remaining K' i m
      remains m q =
          elim (cases_order m i) [
            | inl e ↦ absurd (both_ways _ (ap without e ∙ out) q)
            | inr o ↦ elim o [ inl l ↦ inl (l, after m (omega arith) ∙ sym (else m (omega arith)) ∙ q) | inr g ↦ inr g ]
          ]
