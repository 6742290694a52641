-- A timetable keeps what another keeps, if every term that allowed a bound still allows it.
use Rattle.std.proofs.Common.{◌≡◌, ℕ, ◌<◌, Bool, true, false, cond, ◌⊎◌, List, [], ◌∷◌, ℤ, ◌+ℤ◌, ◌≤ℤ◌, ◌<ℤ◌, refl, inl, inr, arith}
use lib.Signed.{lt_z, le_z}
use Rattle.std.specs.List.{AllByRecursion}
use Rattle.std.proofs.lemmas.Int.{ints, by_lt_z}
use Rattle.std.proofs.ByRecursion.{All-weaker}
use Rattle.rules.specs.Laws.{Admits, Enough, Laws}
use Rattle.rules.proofs.Masks.{enough_more}
use Rattle.timing.specs.Model.{TermModel, BoundModel, TermWithin, BoundWithin}
use Rattle.timing.specs.Timetables.{Timetable, allows, Suffice, Keeps, KeepsAll}
use Rattle.timing.specs.Rise.{join}

-- what holds of everything holds of each element
pub all_any : {X : Type 0} (P : X → Type 0) (xs : List X) → ((x : X) → P x) → AllByRecursion P xs
all_any P [] h = tt
all_any P (x ∷ xs) h = (h x, all_any P xs h)

-- two facts of each element give a third
pub all_both : {X : Type 0} (P Q R : X → Type 0) → ((x : X) → P x → Q x → R x) → (xs : List X) → AllByRecursion P xs → AllByRecursion Q xs → AllByRecursion R xs
all_both P Q R f [] p q = tt
all_both P Q R f (x ∷ xs) p q = (f x p.0 q.0, all_both P Q R f xs p.1 q.1)

-- a choice by a test of two times
pub choice : {X : Type 0} (a b : ℤ) (v w : X) → ((a <ℤ b) × (cond (lt_z a b) v w ≡ v)) ⊎ ((b ≤ℤ a) × (cond (lt_z a b) v w ≡ w))
choice a b v w = go (lt_z a b) refl
  where
    go : (r : Bool) → lt_z a b ≡ r → ((a <ℤ b) × (cond r v w ≡ v)) ⊎ ((b ≤ℤ a) × (cond r v w ≡ w))
    go true q = inl (omega (arith, ints), refl)
    go false q = inr (omega (arith, ints), refl)

-- all events moved alike
abbrev pub shifted : ℤ → Timetable → Timetable
shifted c t e = t e +ℤ c

pub join_is : (t u : Timetable) (e : ℕ) → ((u e <ℤ t e) × (join t u e ≡ t e)) ⊎ ((t e ≤ℤ u e) × (join t u e ≡ u e))
join_is t u e = choice (u e) (t e) (t e) (u e)

-- a test of two times, and the order
pub le_true : (a b : ℤ) → a ≤ℤ b → le_z a b ≡ true
le_true a b h = grind (arith, ints)

pub true_le : (a b : ℤ) → le_z a b ≡ true → a ≤ℤ b
true_le a b h = omega (arith, ints)

-- a term allows, as an order
abbrev pub Allows : Timetable → ℕ → TermModel → Type 0
Allows t to m = t to ≤ℤ (t m.from +ℤ m.delay)

pub allow : (t : Timetable) (to : ℕ) (m : TermModel) → Allows t to m → allows t to m ≡ true
allow t to m = le_true (t to) (t m.from +ℤ m.delay)

pub allowed : (t : Timetable) (to : ℕ) (m : TermModel) → allows t to m ≡ true → Allows t to m
allowed t to m = true_le (t to) (t m.from +ℤ m.delay)

module _ {A : Admits} {E : Enough} (laws : Laws A E) where
  -- where each term that passes one test passes the other too, the second are enough if the first are
  pub suffice_more : (b : BoundModel) (p q : TermModel → Bool) → AllByRecursion (λ m. p m ≡ true → q m ≡ true) b.terms → Suffice E b p → Suffice E b q
  suffice_more b p q = enough_more laws b.kind b.k p q b.terms

  -- of a bound of the sheet, only terms of the sheet count
  pub keeps_within : (n D : ℕ) (t u : Timetable) (b : BoundModel) → BoundWithin n D b
      → ((m : TermModel) → TermWithin n D m → Allows t b.to m → Allows u b.to m) → Keeps E t b → Keeps E u b
  keeps_within n D t u b within still =
      suffice_more b (allows t b.to) (allows u b.to)
      (All-weaker (TermWithin n D) _ (λ m w a. allow u b.to m (still m w (allowed t b.to m a))) b.terms within.1)

  pub keeps_more : (t u : Timetable) (b : BoundModel) → ((m : TermModel) → Allows t b.to m → Allows u b.to m) → Keeps E t b → Keeps E u b
  keeps_more t u b still =
      suffice_more b (allows t b.to) (allows u b.to) (all_any _ b.terms (λ m a. allow u b.to m (still m (allowed t b.to m a))))

  -- what matters is the times of the sheet's events
  pub keeps_like : (n D : ℕ) (t u : Timetable) → ((e : ℕ) → e < n → t e ≡ u e) → (b : BoundModel) → BoundWithin n D b → Keeps E t b → Keeps E u b
  keeps_like n D t u same b within =
      keeps_within n D t u b within (λ m w a. omega (arith, ints, same b.to within.0, same m.from w.0))

  pub keeps_all_shifted : (c : ℤ) (t : Timetable) (bs : List BoundModel) → KeepsAll E bs t → KeepsAll E bs (shifted c t)
  keeps_all_shifted c t = All-weaker (Keeps E t) (Keeps E (shifted c t)) (λ b. keeps_more t (shifted c t) b (λ m a. omega (arith, ints)))

  -- a bound is kept for the sake of the timetable that puts TO later
  pub keeps_join : (t u : Timetable) (b : BoundModel) → Keeps E t b → Keeps E u b → Keeps E (join t u) b
  keeps_join t u b kt ku =
      by_lt_z (u b.to) (t b.to)
      (λ lt. keeps_more t (join t u) b (λ m a. omega (arith, ints, join_is t u b.to, join_is t u m.from)) kt)
      (λ ge. keeps_more u (join t u) b (λ m a. omega (arith, ints, join_is t u b.to, join_is t u m.from)) ku)
