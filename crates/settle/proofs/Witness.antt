-- A timetable that is known to be there can be named, where the times of finitely many events decide what is asked of it;
-- so what a settled sheet is known to hold is right, with its timetables.
use Rattle.std.proofs.Common.{◌≡◌, ℕ, zero, suc, ◌+◌, ◌<◌, Bool, true, false, ltb, not, ◌&&◌, ◌||◌, ◌⊎◌, List, [], ◌∷◌, length, get_or, ℤ, pos, sym, refl, subst, inl, inr, arith, below_more}
use Rattle.std.proofs.Math.IntN.{negsuc, neg_ℤ, nat_abs, ℤ_set}
use Rattle.std.proofs.Math.Bool.{Bool-set}
use Rattle.std.proofs.Math.Dec.{T_prop}
use Rattle.std.proofs.Math.Bridge.{le_prop}
use Rattle.std.proofs.Math.Logic.{∥∥₁_elim, ∥∥₁_map}
use mathlib.Core.HLevel.{Σ_prop_path}
use Rattle.std.specs.Bool.{Decides}
use Rattle.std.specs.List.{AllByRecursion-prop}
use Rattle.std.proofs.ByRecursion.{All-get_or}
use Rattle.std.proofs.lemmas.Bool.{cases_lt, cases_Bool, both_ways}
use Rattle.std.proofs.lemmas.Bool.Decides.{Decides-and, Decides-or, Decides-ltb, Decides-below_and, Decides-below_or}
use Rattle.rules.specs.Laws.{Admits, Enough, Laws}
use Rattle.rules.specs.Masks.{mask_by}
use Rattle.timing.specs.Limits.{delay_limit}
use Rattle.timing.specs.Model.{BoundModel, IsSheet, BoundWithin}
use Rattle.timing.specs.Timetables.{Timetable, times, allows, Keeps}
use Rattle.timing.specs.Knots.{no_bound, KeepsThose, AdmitOne, Remaining}
use Rattle.timing.proofs.Keeping.{keeps_like}
use Rattle.sheet.specs.Plain.{PlainSheet}
use Rattle.settle.specs.declared.settled.Found.{Found}
use Rattle.settle.specs.declared.settled.Found.TheVariants.{NoSource, Placed, Knotted}
use Rattle.settle.specs.Held.{events}
use Rattle.settle.specs.Meaning.{Right}

-- a test that a number passes has a least such number, and this is one
abbrev Least : (ℕ → Bool) → Type 0
Least p = (n : ℕ) × ((p n ≡ true) × ((m : ℕ) → m < n → p m ≡ false))

Least-prop : (p : ℕ → Bool) → IsProp (Least p)
Least-prop p x y =
    Σ_prop_path {A = ℕ} {B = λ n. (p n ≡ true) × ((m : ℕ) → m < n → p m ≡ false)} (λ n. hlevel Bool-set) {u = x} {v = y}
    (elim (cases_lt x.0 y.0) [
      | inl lt ↦ absurd (both_ways (p x.0) (y.1.1 x.0 lt) x.1.0)
      | inr ge ↦ elim (cases_lt y.0 x.0) [ inl gt ↦ absurd (both_ways (p y.0) (x.1.1 y.0 gt) y.1.0) | inr le ↦ omega arith ]
    ])

search_to : (p : ℕ → Bool) (n : ℕ) → Least p ⊎ ((m : ℕ) → m < n → p m ≡ false)
search_to p zero = inr (λ m h. absurd (omega arith))
search_to p (suc n) =
    elim (search_to p n) [
      | inl one ↦ inl one
      | inr none ↦ elim (cases_Bool (p n)) [ inl e ↦ inl (n, (e, none)) | inr e ↦ inr (λ m h. below_more (λ j. p j ≡ false) n none e m (omega arith)) ]
    ]

least : (p : ℕ → Bool) → ∥ ((n : ℕ) × (p n ≡ true)) ∥₁ → Least p
least p some =
    ∥∥₁_elim some (Least-prop p)
    (λ r. elim (search_to p (suc r.0)) [ inl one ↦ one | inr none ↦ absurd (both_ways (p r.0) (none r.0 (omega arith)) r.1) ])

-- some list of so many numbers, each nearer to 0 than the reach, passes a test
abbrev some_below : (ℕ → Bool) → ℕ → Bool
some_below p zero = false
some_below p (suc n) = p n || some_below p n

abbrev some_list : ℕ → ℕ → (List ℤ → Bool) → Bool
some_list zero reach p = p []
some_list (suc k) reach p = some_below (λ i. some_list k reach (λ l. p (pos i ∷ l)) || some_list k reach (λ l. p (neg_ℤ (pos i) ∷ l))) reach

-- it is found with its list
found_list : (k reach : ℕ) (p : List ℤ → Bool) → some_list k reach p ≡ true → (l : List ℤ) × (p l ≡ true)
found_list zero reach p e = ([], e)
found_list (suc k) reach p e =
    let first : ℕ → Bool = λ i. some_list k reach (λ l. p (pos i ∷ l)) || some_list k reach (λ l. p (neg_ℤ (pos i) ∷ l)) in
    let at = (Decides-below_or first (λ i. first i ≡ true) (some_below first) (λ i. (λ q. q, λ q. q)) refl (λ _. refl) reach).0 e in
    let over = some_list k reach (λ l. p (pos at.0 ∷ l)) in
    let under = some_list k reach (λ l. p (neg_ℤ (pos at.0) ∷ l)) in
    let either : Decides (over || under) ((over ≡ true) ⊎ (under ≡ true)) = Decides-or over under (λ q. q, λ q. q) (λ q. q, λ q. q) in
    elim (either.0 at.2) [
      | inl q ↦ (let r = found_list k reach (λ l. p (pos at.0 ∷ l)) q in (pos at.0 ∷ r.0, r.1))
      | inr q ↦ (let r = found_list k reach (λ l. p (neg_ℤ (pos at.0) ∷ l)) q in (neg_ℤ (pos at.0) ∷ r.0, r.1))
    ]

-- and there is one where the first times of a timetable that stays within the reach pass
abbrev Near : ℕ → ℤ → Type 0
Near reach z = (i : ℕ) × (i < reach) × ((z ≡ pos i) ⊎ (z ≡ neg_ℤ (pos i)))

abbrev first_times : ℕ → Timetable → List ℤ
first_times zero t = []
first_times (suc k) t = t 0 ∷ first_times k (λ e. t (suc e))

times-first : (k : ℕ) (t : Timetable) (e : ℕ) → e < k → times (first_times k t) e ≡ t e
times-first zero t e h = absurd (omega arith)
times-first (suc k) t zero h = refl
times-first (suc k) t (suc e) h = times-first k (λ e. t (suc e)) e (omega arith)

is_found : (k reach : ℕ) (p : List ℤ → Bool) (t : Timetable) → ((e : ℕ) → e < k → Near reach (t e)) → p (first_times k t) ≡ true → some_list k reach p ≡ true
is_found zero reach p t near q = q
is_found (suc k) reach p t near q =
    let first : ℕ → Bool = λ i. some_list k reach (λ l. p (pos i ∷ l)) || some_list k reach (λ l. p (neg_ℤ (pos i) ∷ l)) in
    let at = near 0 (omega arith) in
    let over = some_list k reach (λ l. p (pos at.0 ∷ l)) in
    let under = some_list k reach (λ l. p (neg_ℤ (pos at.0) ∷ l)) in
    let either : Decides (over || under) ((over ≡ true) ⊎ (under ≡ true)) = Decides-or over under (λ q. q, λ q. q) (λ q. q, λ q. q) in
    let rest : (z : ℤ) → t 0 ≡ z → some_list k reach (λ l. p (z ∷ l)) ≡ true = λ z s.
    is_found k reach (λ l. p (z ∷ l)) (λ e. t (suc e)) (λ e h. near (suc e) (omega arith)) (subst (λ y. p (y ∷ first_times k (λ e. t (suc e))) ≡ true) s q) in
    (Decides-below_or first (λ i. first i ≡ true) (some_below first) (λ i. (λ q. q, λ q. q)) refl (λ _. refl) reach).1
    (at.0, at.1, either.1 (elim at.2 [ inl s ↦ inl (rest (pos at.0) s) | inr s ↦ inr (rest (neg_ℤ (pos at.0)) s) ]))

-- finitely many times stay within some reach
sized : (z : ℤ) → Near (suc (nat_abs z)) z
sized (pos n) = (n, omega arith, inl refl)
sized (negsuc n) = (suc n, omega arith, inr refl)

near_all : (k : ℕ) (t : Timetable) → (reach : ℕ) × ((e : ℕ) → e < k → Near reach (t e))
near_all zero t = (0, λ e h. absurd (omega arith))
near_all (suc k) t =
    let rest = near_all k t in
    let last = sized (t k) in
    let reach = rest.0 + suc (nat_abs (t k)) in (
      reach,
      λ e h.
          below_more (λ j. Near reach (t j)) k
          (λ j l. let one = rest.1 j l in (one.0, omega (arith, one.1), one.2)) (last.0, omega (arith, last.1), last.2) e (omega arith),
    )

-- so a timetable can be named, where a test of the first n times decides what is asked
named : (n : ℕ) (P : Timetable → Type 0) (test : Timetable → Bool) → ((t : Timetable) → Decides (test t) (P t))
    → ((t u : Timetable) → ((e : ℕ) → e < n → t e ≡ u e) → P t → P u) → ∥ ((t : Timetable) × P t) ∥₁ → (t : Timetable) × P t
named n P test decides like some =
    let p : List ℤ → Bool = λ l. test (times l) in
    let reach = least (λ r. some_list n r p) (∥∥₁_map some (λ r.
    let near = near_all n r.0 in
    (near.0, is_found n near.0 p r.0 near.1 ((decides (times (first_times n r.0))).1 (like r.0 (times (first_times n r.0)) (λ e h. sym (times-first n r.0 e h)) r.1))))) in
    let l = found_list n reach.0 p reach.1.0 in
    (times l.0, (decides (times l.0)).0 l.1)

Decides-if : {P Q : Type 0} (x y : Bool) → Decides x P → Decides y Q → Decides (not x || y) (P → Q)
Decides-if true y d k = (λ e p. k.0 e, λ h. k.1 (h (d.0 refl)))
Decides-if false y d k = (λ e p. absurd (both_ways false refl (d.1 p)), λ h. refl)

module _ {A : Admits} {E : Enough} (laws : Laws A E) (s : PlainSheet) (sheet : IsSheet 64 delay_limit (events s) s.bounds) where
  -- a timetable that keeps the bounds remaining at a trial
  module _ (knot : ℕ → Bool) (i : ℕ) where
    abbrev remains : ℕ → Bool
    remains j = (ltb j i && knot j) || ltb i j

    abbrev kept : Timetable → BoundModel → Bool
    kept t b = E b.kind b.k (length b.terms) (mask_by (allows t b.to) b.terms)

    abbrev fits : Timetable → ℕ → Bool
    fits t j = not (remains j) || kept t (get_or s.bounds j no_bound)

    abbrev all_fit : Timetable → ℕ → Bool
    all_fit t zero = true
    all_fit t (suc n) = fits t n && all_fit t n

    abbrev Fits : Timetable → ℕ → Type 0
    Fits t j = Remaining knot i j → Keeps E t (get_or s.bounds j no_bound)

    fit : (t : Timetable) (j : ℕ) → Decides (fits t j) (Fits t j)
    fit t j =
        Decides-if (remains j) (kept t (get_or s.bounds j no_bound))
        (Decides-or (ltb j i && knot j) (ltb i j) (Decides-and (ltb j i) (knot j) (Decides-ltb j i) (λ q. q, λ q. q)) (Decides-ltb i j)) (λ q. q, λ q. q)

    pub admit_one : ∥ AdmitOne E s.bounds (Remaining knot i) ∥₁ → AdmitOne E s.bounds (Remaining knot i)
    admit_one =
        named (events s) (KeepsThose E s.bounds (Remaining knot i)) (λ t. all_fit t (length s.bounds))
        (λ t. Decides-below_and (fits t) (Fits t) (all_fit t) (fit t) refl (λ _. refl) (length s.bounds))
        (λ t u same keeps j l r.
        keeps_like laws (events s) delay_limit t u same (get_or s.bounds j no_bound)
        (All-get_or (BoundWithin (events s) delay_limit) s.bounds j no_bound l sheet.bounds) (keeps j l r))

  -- what is known of what settling found, with its timetables
  pub right_known : (source : ℕ) (found : Found) → ∥ Right E s source found ∥₁ → Right E s source found
  right_known source NoSource some = ∥∥₁_elim some le_prop (λ r. r)
  right_known source (Placed places) some =
      ∥∥₁_elim some (hlevel (le_prop, AllByRecursion-prop, Bool-set, ℤ_set, T_prop)) (λ r. r)
  right_known source (Knotted flags) some = (
    ∥∥₁_elim some le_prop (λ r. r.0),
    λ t keeps. ∥∥₁_elim {P = ⊥} some (hlevel) (λ (r : Right E s source (Knotted flags)). r.1 t keeps),
    record {
      stays = λ i l q. admit_one (λ j. get_or flags j false) i (∥∥₁_map some (λ r. r.2.stays i l q));
      goes = λ i l q t keeps. ∥∥₁_elim {P = ⊥} some (hlevel) (λ (r : Right E s source (Knotted flags)). r.2.goes i l q t keeps);
    },
  )
