-- Among n events, one of enough bands is empty: count the events up to a time.
use Rattle.std.proofs.Common.{◌≡◌, ℕ, zero, suc, ◌+◌, ◌*◌, ◌<◌, ◌≤◌, cond, ◌⊎◌, ℤ, pos, ◌+ℤ◌, ◌≤ℤ◌, ◌<ℤ◌, subst, inl, inr, arith}
use lib.Signed.{lt_z}
use Rattle.std.proofs.lemmas.Int.{ints}
use Rattle.std.proofs.lemmas.Bool.{cases_lt}
use Rattle.timing.specs.Timetables.{Timetable}
use Rattle.timing.proofs.Keeping.{choice}
use Rattle.timing.proofs.Bands.{Empty}

-- what holds below n, and at n, holds below n + 1
pub below_suc : (P : ℕ → Type 0) (n : ℕ) → ((e : ℕ) → e < n → P e) → P n → (e : ℕ) → e < suc n → P e
below_suc P n f p e h = elim (cases_lt e n) [ inl l ↦ f e l | inr g ↦ (let q : n ≡ e = omega arith in subst P q p) ]

-- 1 for an event that is not later than v
abbrev upto_one : Timetable → ℕ → ℤ → ℕ
upto_one t e v = cond (lt_z v (t e)) 0 1

counts : (t : Timetable) (e : ℕ) (v : ℤ) → ((v <ℤ t e) × (upto_one t e v ≡ 0)) ⊎ ((t e ≤ℤ v) × (upto_one t e v ≡ 1))
counts t e v = choice v (t e) 0 1

-- how many of the n events are not later than v
abbrev pub upto : Timetable → ℕ → ℤ → ℕ
upto t zero v = 0
upto t (suc n) v = upto t n v + upto_one t n v

pub upto_le : (t : Timetable) (n : ℕ) (v : ℤ) → upto t n v ≤ n
upto_le t zero v = omega arith
upto_le t (suc n) v = omega (arith, upto_le t n v, counts t n v)

upto_mono : (t : Timetable) (n : ℕ) (v w : ℤ) → v ≤ℤ w → upto t n v ≤ upto t n w
upto_mono t zero v w h = omega arith
upto_mono t (suc n) v w h = omega (arith, ints, upto_mono t n v w h, counts t n v, counts t n w)

-- where no more are counted up to w than up to v, none lies between
none_between : (t : Timetable) (n : ℕ) (v w : ℤ) → v ≤ℤ w → upto t n w ≤ upto t n v → (e : ℕ) → e < n → (t e ≤ℤ v) ⊎ (w <ℤ t e)
none_between t zero v w h k = λ e l. absurd (omega arith)
none_between t (suc n) v w h k =
    below_suc (λ e. (t e ≤ℤ v) ⊎ (w <ℤ t e)) n
    (none_between t n v w h (omega (arith, ints, upto_mono t n v w h, counts t n v, counts t n w)))
    (elim (counts t n v) [ inl a ↦ inr (omega (arith, ints, upto_mono t n v w h, counts t n w)) | inr a ↦ inl a.0 ])

-- an event after v and not after w is counted up to w, and not up to v
pub upto-more : (t : Timetable) (n : ℕ) (v w : ℤ) (e : ℕ) → e < n → v <ℤ t e → t e ≤ℤ w → upto t n v < upto t n w
upto-more t n v w e he h k =
    elim (cases_lt (upto t n v) (upto t n w))
    [ inl l ↦ l | inr g ↦ absurd (omega (arith, ints, none_between t n v w (omega (arith, ints)) g e he)) ]

-- an empty band of width W, from c up to w
abbrev pub EmptyBand : Timetable → ℕ → ℕ → ℤ → ℤ → Type 0
EmptyBand t n W c w = (d : ℤ) × (c ≤ℤ d) × ((d +ℤ pos W) ≤ℤ w) × Empty t n d W

-- of m bands of width W after c one is empty, or each holds an event
bands : (t : Timetable) (n W m : ℕ) (c : ℤ) → EmptyBand t n W c (c +ℤ pos (m * W)) ⊎ (upto t n c + m ≤ upto t n (c +ℤ pos (m * W)))
bands t n W zero c = inr (omega (arith, upto_mono t n c (c +ℤ pos (0 * W)) (omega (arith, ints))))
bands t n W (suc m) c = go (c +ℤ pos (m * W)) (c +ℤ pos (suc m * W)) (omega (arith, ints)) (omega (arith, ints)) (bands t n W m c) (cases_lt _ _)
  where
    go : (v w : ℤ) → c ≤ℤ v → v +ℤ pos W ≡ w → EmptyBand t n W c v ⊎ (upto t n c + m ≤ upto t n v)
        → (upto t n v < upto t n w) ⊎ (upto t n w ≤ upto t n v) → EmptyBand t n W c w ⊎ (upto t n c + suc m ≤ upto t n w)
    go v w hv hw (inl b) k = inl (b.0, b.1, omega (arith, ints), b.3)
    go v w hv hw (inr h) (inl k) = inr (omega arith)
    go v w hv hw (inr h) (inr k) = inl (v, hv, omega (arith, ints), λ e l. elim (none_between t n v w (omega (arith, ints)) k e l) [ inl a ↦ inl a | inr a ↦ inr (omega (arith, ints)) ])

-- so one is empty, if fewer than m events lie in them
pub band : (t : Timetable) (n W m : ℕ) (c : ℤ) → upto t n (c +ℤ pos (m * W)) < upto t n c + m → EmptyBand t n W c (c +ℤ pos (m * W))
band t n W m c h = elim (bands t n W m c) [ inl b ↦ b | inr k ↦ absurd (omega arith) ]
