-- Tests that antt computes of a sheet that is written out: that a list is its places, and that it is contradictory.
-- Both rest on an order of some events in which none can come a tick later.
use Rattle.std.proofs.Common.{◌≡◌, ℕ, zero, suc, ◌+◌, ◌<◌, Bool, true, false, cond, not, ◌&&◌, ◌||◌, eqb, ltb, List, [], ◌∷◌, length, ℤ, pos, ◌+ℤ◌, neg_ℤ, ◌≤ℤ◌, ◌<ℤ◌, sym, refl, ap, subst, inl, inr, arith}
use lib.Signed.{le_z}
use borrow.Author.Differences.{up, down}
use Rattle.std.proofs.lemmas.Int.{ints, by_lt_z}
use Rattle.std.proofs.lemmas.Bool.{and_parts, or_cases, or_left, both_ways, not-true, eqb-true, eq-eqb, ltb-true}
use Rattle.rules.specs.Laws.{Admits, Enough, Laws}
use Rattle.rules.specs.Masks.{mask_by}
use Rattle.timing.specs.Model.{TermModel, BoundModel}
use Rattle.timing.specs.Timetables.{Timetable, times, allows, KeepsAll, Contradictory}
use Rattle.timing.specs.Places.{far_mark, Eligible, Places}
use Rattle.timing.proofs.Keeping.{all_any, le_true, true_le, suffice_more}
use Rattle.timing.proofs.Pigeonhole.{below_suc}

abbrev pub member : ℕ → List ℕ → Bool
member f [] = false
member f (e ∷ es) = eqb f e || member f es

-- the terms that pass a test are enough for the bound
abbrev pub suffices : Enough → BoundModel → (TermModel → Bool) → Bool
suffices E b test = E b.kind b.k (length b.terms) (mask_by test b.terms)

-- the term would allow e a tick after its time in x, where the events of `done` stay, the others of `all` come a tick later, and any other at any time
abbrev pub lets : Timetable → List ℕ → List ℕ → ℕ → TermModel → Bool
lets x all done e m = not (member m.from all) || le_z (x e +ℤ pos (cond (member m.from done) 1 0)) (x m.from +ℤ m.delay)

-- some bound of e has too few terms that would
abbrev pub held : Enough → List BoundModel → Timetable → List ℕ → List ℕ → ℕ → Bool
held E [] x all done e = false
held E (b ∷ bs) x all done e = (eqb b.to e && not (suffices E b (lets x all done e))) || held E bs x all done e

-- each event in its turn is fixed, or held
abbrev pub held_in_order : Enough → List BoundModel → (ℕ → Bool) → Timetable → List ℕ → List ℕ → List ℕ → Bool
held_in_order E bs fixed x all done [] = true
held_in_order E bs fixed x all done (e ∷ es) = (fixed e || held E bs x all done e) && held_in_order E bs fixed x all (e ∷ done) es

abbrev pub keeps_each : Enough → List BoundModel → Timetable → Bool
keeps_each E [] t = true
keeps_each E (b ∷ bs) t = suffices E b (allows t b.to) && keeps_each E bs t

-- each of the n events is in the order, and not after the far mark
abbrev pub near_each : ℕ → ℕ → Timetable → List ℕ → Bool
near_each D zero x order = true
near_each D (suc n) x order = (le_z (x n) (far_mark D) && member n order) && near_each D n x order

-- the source, and what stands at the far mark
abbrev pub fixed_at : ℕ → ℕ → ℕ → Timetable → ℕ → Bool
fixed_at D n source x e = eqb e source || (le_z (far_mark D) (x e) && ltb e n)

abbrev pub shows_places : Enough → ℕ → ℕ → ℕ → List BoundModel → Timetable → List ℕ → Bool
shows_places E D n source bs x order =
    (keeps_each E bs x && (le_z (x source) (pos 0) && le_z (pos 0) (x source)))
    && (near_each D n x order && held_in_order E bs (fixed_at D n source x) x order [] order)

-- the events of the order hold one another back, however early
abbrev pub shows_contradictory : Enough → List BoundModel → List ℕ → Bool
shows_contradictory E bs [] = false
shows_contradictory E bs (e ∷ es) = held_in_order E bs (λ _. false) (times []) (e ∷ es) [] (e ∷ es)

-- one term, with e later than x + c in t
lets_so : (te' te tf xe xf d c : ℤ) (a done : Bool) → te' ≡ te → (xe +ℤ c) <ℤ te → (a ≡ true → tf ≤ℤ ((xf +ℤ c) +ℤ pos 1)) → (done ≡ true → tf ≤ℤ (xf +ℤ c))
    → le_z te' (tf +ℤ d) ≡ true → (not a || le_z (xe +ℤ pos (cond done 1 0)) (xf +ℤ d)) ≡ true
lets_so te' te tf xe xf d c false done q h u v k = refl
lets_so te' te tf xe xf d c true true q h u v k = le_true (xe +ℤ pos 1) (xf +ℤ d) (omega (arith, ints, v refl))
lets_so te' te tf xe xf d c true false q h u v k = le_true (xe +ℤ pos 0) (xf +ℤ d) (omega (arith, ints, u refl))

-- t keeps all bounds, and comes at most c + 1 ticks after x at each event of `all`
module _ {A : Admits} {E : Enough} (laws : Laws A E) (bs : List BoundModel) (x t : Timetable) (keeps : KeepsAll E bs t) (c : ℤ) (all : List ℕ)
    (under : (f : ℕ) → member f all ≡ true → t f ≤ℤ ((x f +ℤ c) +ℤ pos 1)) where
  -- then at most c ticks, at an event that is held
  held_so : (done : List ℕ) → ((f : ℕ) → member f done ≡ true → t f ≤ℤ (x f +ℤ c)) → (e : ℕ) (cs : List BoundModel) → KeepsAll E cs t
      → held E cs x all done e ≡ true → t e ≤ℤ (x e +ℤ c)
  held_so done h e [] kept k = absurd (both_ways false refl k)
  held_so done h e (b ∷ cs) kept k =
      elim (or_cases _ _ k) [
        | inr r ↦ held_so done h e cs kept.1 r
        | inl r ↦ by_lt_z (x e +ℤ c) (t e)
            (λ lt. let w = and_parts (eqb b.to e) _ r in
            absurd (both_ways _ (not-true _ w.1) (suffice_more laws b (allows t b.to) (lets x all done e)
            (all_any _ b.terms (λ m. lets_so (t b.to) (t e) (t m.from) (x e) (x m.from) m.delay c (member m.from all) (member m.from done)
            (ap t (eqb-true b.to e w.0)) lt (under m.from) (h m.from)))
            kept.0)))
            (λ le. le)
      ]

  -- and so at all events of the order, one after the other
  order_so : (fixed : ℕ → Bool) → ((e : ℕ) → fixed e ≡ true → t e ≤ℤ (x e +ℤ c))
      → (order done : List ℕ) → ((f : ℕ) → member f done ≡ true → t f ≤ℤ (x f +ℤ c)) → held_in_order E bs fixed x all done order ≡ true
      → (f : ℕ) → member f order ≡ true → t f ≤ℤ (x f +ℤ c)
  order_so fixed stays [] done h k f m = absurd (both_ways false refl m)
  order_so fixed stays (e ∷ es) done h k f m =
      let w = and_parts (fixed e || held E bs x all done e) _ k in
      let at : t e ≤ℤ (x e +ℤ c) = elim (or_cases _ _ w.0) [ inl r ↦ stays e r | inr r ↦ held_so done h e bs keeps r ] in
      let here : (g : ℕ) → eqb g e ≡ true → t g ≤ℤ (x g +ℤ c) = λ g q. subst (λ (i : ℕ). t i ≤ℤ (x i +ℤ c)) (sym (eqb-true g e q)) at in
      elim (or_cases (eqb f e) _ m) [
        | inl q ↦ here f q
        | inr r ↦ order_so fixed stays es (e ∷ done) (λ g q. elim (or_cases (eqb g e) _ q) [ inl a ↦ here g a | inr a ↦ h g a ]) w.1 f r
      ]

-- some number of ticks that t is nowhere past x
excess : (x t : Timetable) (es : List ℕ) → (N : ℕ) × ((f : ℕ) → member f es ≡ true → t f ≤ℤ (x f +ℤ pos N))
excess x t [] = (0, λ f h. absurd (both_ways false refl h))
excess x t (e ∷ es) =
    let r = excess x t es in
    let N : ℕ = r.0 + (up (t e) + down (x e)) in (
      N,
      λ f h. elim (or_cases (eqb f e) _ h) [
        | inl q ↦ subst (λ (i : ℕ). t i ≤ℤ (x i +ℤ pos N)) (sym (eqb-true f e q)) (omega (arith, ints))
        | inr q ↦ omega (arith, ints, r.1 f q)
      ],
    )

pub keeps_from : (E : Enough) (bs : List BoundModel) (t : Timetable) → keeps_each E bs t ≡ true → KeepsAll E bs t
keeps_from E [] t h = tt
keeps_from E (b ∷ bs) t h = let w = and_parts (suffices E b (allows t b.to)) _ h in (w.0, keeps_from E bs t w.1)

near-from : (D n : ℕ) (x : Timetable) (order : List ℕ) → near_each D n x order ≡ true → (e : ℕ) → e < n → (x e ≤ℤ far_mark D) × (member e order ≡ true)
near-from D zero x order h = λ e l. absurd (omega arith)
near-from D (suc n) x order h =
    let w = and_parts (le_z (x n) (far_mark D) && member n order) _ h in
    let v = and_parts (le_z (x n) (far_mark D)) _ w.0 in
    below_suc (λ e. (x e ≤ℤ far_mark D) × (member e order ≡ true)) n (near-from D n x order w.1) (true_le _ _ v.0, v.1)

module _ {A : Admits} {E : Enough} (laws : Laws A E) (bs : List BoundModel) where
  pub places_by : (D n source : ℕ) (x : Timetable) (order : List ℕ) → shows_places E D n source bs x order ≡ true → Places E D n source bs x
  places_by D n source x order h =
      let w = and_parts (keeps_each E bs x && (le_z (x source) (pos 0) && le_z (pos 0) (x source))) _ h in
      let a = and_parts (keeps_each E bs x) _ w.0 in
      let s = and_parts (le_z (x source) (pos 0)) _ a.1 in
      let b = and_parts (near_each D n x order) _ w.1 in
      let near = near-from D n x order b.0 in
      let starts : x source ≡ pos 0 = omega (arith, ints, true_le (x source) (pos 0) s.0, true_le (pos 0) (x source) s.1) in
      record {
        eligible = record { keeps = keeps_from E bs x a.0; starts = starts; near = λ e l. (near e l).0 };
        latest = λ t eligible e l. let r = excess x t order in nearer starts b.1 t eligible r.0 r.1 e (near e l).1;
      }
    where
      nearer : x source ≡ pos 0 → held_in_order E bs (fixed_at D n source x) x order [] order ≡ true
          → (t : Timetable) → Eligible E D n source bs t → (N : ℕ) → ((f : ℕ) → member f order ≡ true → t f ≤ℤ (x f +ℤ pos N))
          → (f : ℕ) → member f order ≡ true → t f ≤ℤ x f
      nearer starts k t eligible zero under = λ f m. omega (arith, ints, under f m)
      nearer starts k t eligible (suc N) under =
          nearer starts k t eligible N
          (order_so laws bs x t eligible.keeps (pos N) order (λ f m. omega (arith, ints, under f m)) (fixed_at D n source x)
          (λ e r. elim (or_cases (eqb e source) _ r) [
            | inl q ↦ (let i : e ≡ source = eqb-true e source q in let y : t e ≡ t source = ap t i in let z : x e ≡ x source = ap x i in
                let u : t source ≡ pos 0 = eligible.starts in omega (arith, ints))
            | inr q ↦ (let v = and_parts (le_z (far_mark D) (x e)) _ q in omega (arith, ints, true_le (far_mark D) (x e) v.0, eligible.near e (ltb-true e n v.1)))
          ])
          order [] (λ f m. absurd (both_ways false refl m)) k)

  pub contradictory_by : (order : List ℕ) → shows_contradictory E bs order ≡ true → Contradictory E bs
  contradictory_by [] h t keeps = both_ways false refl h
  contradictory_by (e ∷ es) h t keeps =
      let r = excess (times []) t (e ∷ es) in
      omega (arith, ints, sinks r.0 r.1 (r.0 + (down (t e) + 1)) e (or_left _ _ (eq-eqb e e refl)))
    where
      -- by any number of ticks
      sinks : (C : ℕ) → ((f : ℕ) → member f (e ∷ es) ≡ true → t f ≤ℤ (times [] f +ℤ pos C))
          → (N : ℕ) → (f : ℕ) → member f (e ∷ es) ≡ true → t f ≤ℤ (times [] f +ℤ (pos C +ℤ neg_ℤ (pos N)))
      sinks C under zero = λ f m. omega (arith, ints, under f m)
      sinks C under (suc N) =
          order_so laws bs (times []) t keeps (pos C +ℤ neg_ℤ (pos (suc N))) (e ∷ es) (λ f m. omega (arith, ints, sinks C under N f m))
          (λ _. false) (λ e z. absurd (both_ways false refl z)) (e ∷ es) [] (λ f m. absurd (both_ways false refl m)) h
