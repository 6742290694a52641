-- How far apart the events of a sheet can lie, and need to lie.
use Rattle.std.proofs.Common.{◌≡◌, ℕ, zero, suc, ◌+◌, ◌*◌, ◌<◌, ◌≤◌, ◌⊎◌, List, ℤ, pos, negsuc, ◌+ℤ◌, neg_ℤ, ◌≤ℤ◌, ◌<ℤ◌, refl, ◌∙◌, inl, inr, arith}
use borrow.Author.Differences.{up, down}
use Rattle.std.proofs.lemmas.Int.{ints, by_lt_z}
use Rattle.rules.specs.Laws.{Admits, Enough, Laws}
use Rattle.timing.specs.Model.{BoundModel, IsSheet}
use Rattle.timing.specs.Timetables.{Timetable, Keeps, KeepsAll, Contradictory}
use Rattle.timing.specs.Places.{far_mark, span, Eligible, Places}
use Rattle.timing.specs.Rise.{join}
use Rattle.timing.proofs.Keeping.{all_both, shifted, join_is, keeps_all_shifted, keeps_join}
use Rattle.timing.proofs.Bands.{Empty, moved, moved_is, keeps_all_moved}
use Rattle.timing.proofs.Pigeonhole.{below_suc, upto_le, upto-more, EmptyBand, band}

-- some number that none of the n events passes
pub top : (t : Timetable) (n : ℕ) → (N : ℕ) × ((e : ℕ) → e < n → t e ≤ℤ pos N)
top t zero = (0, λ e h. absurd (omega arith))
top t (suc n) =
    let r = top t n in
    (r.0 + up (t n), below_suc (λ e. t e ≤ℤ pos (r.0 + up (t n))) n (λ e h. omega (arith, ints, r.1 e h)) (omega (arith, ints)))

module _ {A : Admits} {E : Enough} (laws : Laws A E) (D n : ℕ) (bs : List BoundModel) (sheet : IsSheet 64 D n bs)
    (source : ℕ) (inside : source < n) where
  keeps_moved : (c above below : ℤ) → below ≤ℤ (above +ℤ pos 1) → (t : Timetable) → Empty t n c D → KeepsAll E bs t → KeepsAll E bs (moved c above below t)
  keeps_moved = keeps_all_moved laws n D bs sheet.bounds

  -- two events more than 63 D apart: 63 bands lie between them, and at most 62 other events
  between : (t : Timetable) (c : ℤ) (e f : ℕ) → e < n → f < n → t e ≤ℤ c → (c +ℤ span D) <ℤ t f → EmptyBand t n D c (c +ℤ span D)
  between t c e f he hf h k =
      band t n D 63 c
      (omega (
        arith,
        sheet.few,
        upto-more t n (t e +ℤ negsuc 0) c e he (omega (arith, ints)) h,
        upto-more t n (c +ℤ span D) (t f) f hf k (omega (arith, ints)),
        upto_le t n (t f),
      ))

  -- an event after 63 D can be put after any number: with all that lies above an empty band it goes up
  pub far : (p : Timetable) → KeepsAll E bs p → p source ≡ pos 0 → (e : ℕ) → e < n → span D <ℤ p e
      → (z : ℤ) → (t : Timetable) × KeepsAll E bs t × (t source ≡ pos 0) × (z <ℤ t e)
  far p keeps starts e he h z =
      let b = between p (pos 0) source e inside he (omega (arith, ints)) (omega (arith, ints)) in (
        moved b.0 (pos (up z)) (pos 0) p,
        keeps_moved b.0 (pos (up z)) (pos 0) (omega (arith, ints)) p b.3 keeps,
        omega (arith, ints, b.1, moved_is b.0 (pos (up z)) (pos 0) p source),
        omega (arith, ints, b.2, moved_is b.0 (pos (up z)) (pos 0) p e),
      )

  -- a timetable under the far mark, with the same times up to 63 D
  abbrev Lowered : Timetable → Type 0
  Lowered t = (u : Timetable) × Eligible E D n source bs u × ((e : ℕ) → e < n → (u e ≡ t e) ⊎ (span D <ℤ u e))

  -- 64 bands above 63 D end below the far mark, and one is empty: what lies above it comes down by one, as often as it takes
  lower_by : (N : ℕ) (t : Timetable) → KeepsAll E bs t → t source ≡ pos 0 → ((e : ℕ) → e < n → t e ≤ℤ (far_mark D +ℤ pos N)) → Lowered t
  lower_by zero t keeps starts near = (t, record { keeps = keeps; starts = starts; near = λ e h. omega (arith, ints, near e h) }, λ e h. inl refl)
  lower_by (suc N) t keeps starts near =
      let b = band t n D 64 (span D)
      (omega (arith, sheet.few, upto-more t n (negsuc 0) (span D) source inside (omega (arith, ints)) (omega (arith, ints)), upto_le t n (span D +ℤ pos (64 * D)))) in
      let t₁ : Timetable = moved b.0 (negsuc 0) (pos 0) t in
      let at : (e : ℕ) → _ = moved_is b.0 (negsuc 0) (pos 0) t in
      let r = lower_by N t₁ (keeps_moved b.0 (negsuc 0) (pos 0) (omega (arith, ints)) t b.3 keeps)
      (omega (arith, ints, b.1, at source))
      (λ e h. omega (arith, ints, sheet.limit, b.2, at e, near e h)) in
      (r.0, r.1, λ e h. same (t e) (t₁ e) (r.0 e) (elim (at e) [ inl u ↦ inr (omega (arith, ints, sheet.limit, b.1, b.3 e h)) | inr u ↦ inl (omega (arith, ints)) ]) (r.2 e h))
    where
      same : (x y z : ℤ) → (y ≡ x) ⊎ (span D <ℤ y) → (z ≡ y) ⊎ (span D <ℤ z) → (z ≡ x) ⊎ (span D <ℤ z)
      same x y z h (inr k) = inr k
      same x y z (inl h) (inl k) = inl (k ∙ h)
      same x y z (inr h) (inl k) = inr (omega (arith, ints))

  lowered : (t : Timetable) → KeepsAll E bs t → t source ≡ pos 0 → Lowered t
  lowered t keeps starts = let r = top t n in lower_by r.0 t keeps starts (λ e h. omega (arith, ints, r.1 e h))

  -- no timetable puts an event later than a place up to 63 D
  pub near : (p : Timetable) → Places E D n source bs p → (e : ℕ) → e < n → p e ≤ℤ span D
      → (t : Timetable) → KeepsAll E bs t → t source ≡ pos 0 → t e ≤ℤ p e
  near p places e he h t keeps starts =
      let r = lowered t keeps starts in
      omega (arith, ints, r.2 e he, places.latest r.0 r.1 e he)

  -- where some timetable keeps the bounds, one is eligible: shift the source to 0, and lower the rest
  pub made_eligible : (t : Timetable) → KeepsAll E bs t → (u : Timetable) × Eligible E D n source bs u
  made_eligible t keeps =
      let r = lowered (shifted (neg_ℤ (t source)) t) (keeps_all_shifted laws (neg_ℤ (t source)) t bs keeps) (omega (arith, ints)) in (r.0, r.1)

  pub none_eligible : ((t : Timetable) → Eligible E D n source bs t → ⊥) → Contradictory E bs
  none_eligible none t keeps = let r = made_eligible t keeps in none r.0 r.1

  -- an event need not lie before -63 D: with all that lies below an empty band it comes up by one, as often as it takes
  raise_by : (N : ℕ) (t : Timetable) → Eligible E D n source bs t → (e : ℕ) → e < n → neg_ℤ (span D) ≤ℤ (t e +ℤ pos N)
      → (u : Timetable) × Eligible E D n source bs u × (neg_ℤ (span D) ≤ℤ u e)
  raise_by zero t eligible e he h = (t, eligible, omega (arith, ints))
  raise_by (suc N) t eligible e he h =
      by_lt_z (t e) (neg_ℤ (span D))
      (λ k.
      let starts : t source ≡ pos 0 = eligible.starts in
      let b = between t (negsuc (63 * D)) e source he inside (omega (arith, ints)) (omega (arith, ints)) in
      let at : (f : ℕ) → _ = moved_is b.0 (pos 0) (pos 1) t in
      raise_by N (moved b.0 (pos 0) (pos 1) t)
      (record {
        keeps = keeps_moved b.0 (pos 0) (pos 1) (omega (arith, ints)) t b.3 eligible.keeps;
        starts = omega (arith, ints, sheet.limit, b.2, at source);
        near = λ f hf. omega (arith, ints, sheet.limit, b.2, at f, eligible.near f hf);
      })
      e he (omega (arith, ints, b.1, at e)))
      (λ k. (t, eligible, k))

  low : (t : Timetable) → Eligible E D n source bs t → (e : ℕ) → e < n → (u : Timetable) × Eligible E D n source bs u × (neg_ℤ (span D) ≤ℤ u e)
  low t eligible e he = raise_by (down (t e)) t eligible e he (omega (arith, ints))

  pub place_low : (p : Timetable) → Places E D n source bs p → (e : ℕ) → e < n → neg_ℤ (span D) ≤ℤ p e
  place_low p places e he = let r = low p places.eligible e he in omega (arith, ints, r.2, places.latest r.0 r.1 e he)

  pub eligible_join : (t u : Timetable) → Eligible E D n source bs t → Eligible E D n source bs u → Eligible E D n source bs (join t u)
  eligible_join t u ft fu =
      let a : t source ≡ pos 0 = ft.starts in
      let b : u source ≡ pos 0 = fu.starts in
      record {
        keeps = all_both (Keeps E t) (Keeps E u) (Keeps E (join t u)) (keeps_join laws t u) bs ft.keeps fu.keeps;
        starts = omega (arith, ints, join_is t u source);
        near = λ e h. omega (arith, ints, join_is t u e, ft.near e h, fu.near e h);
      }

  -- all events at once: join a timetable for each
  low_below : (m : ℕ) → m ≤ n → (t : Timetable) → Eligible E D n source bs t
      → (u : Timetable) × Eligible E D n source bs u × ((e : ℕ) → e < m → neg_ℤ (span D) ≤ℤ u e)
  low_below zero hm t eligible = (t, eligible, λ e h. absurd (omega arith))
  low_below (suc m) hm t eligible =
      let r = low_below m (omega arith) t eligible in
      let q = low t eligible m hm in (
        join r.0 q.0,
        eligible_join r.0 q.0 r.1 q.1,
        below_suc (λ e. neg_ℤ (span D) ≤ℤ join r.0 q.0 e) m
            (λ e h. omega (arith, ints, join_is r.0 q.0 e, r.2 e h)) (omega (arith, ints, join_is r.0 q.0 m, q.2)),
      )

  pub low-all : (t : Timetable) → Eligible E D n source bs t
      → (u : Timetable) × Eligible E D n source bs u × ((e : ℕ) → e < n → neg_ℤ (span D) ≤ℤ u e)
  low-all = low_below n (omega arith)

  -- no place lies after 63 D and before the far mark less 63 D: with all events between two empty bands it could go up by one
  pub gap : (p : Timetable) → Places E D n source bs p → (e : ℕ) → e < n → span D <ℤ p e → p e <ℤ (far_mark D +ℤ neg_ℤ (span D)) → ⊥
  gap p places e he h k =
      let starts : p source ≡ pos 0 = places.eligible.starts in
      let lo = between p (pos 0) source e inside he (omega (arith, ints)) (omega (arith, ints)) in
      let hi = band p n D 63 (p e)
      (omega (
        arith,
        sheet.few,
        upto-more p n (negsuc 0) (pos 0) source inside (omega (arith, ints)) (omega (arith, ints)),
        upto-more p n (pos 0) (p e) e he (omega (arith, ints)) (omega (arith, ints)),
        upto_le p n (p e +ℤ span D),
      )) in
      let t : Timetable = moved hi.0 (pos 0) (pos 1) p in
      let u : Timetable = moved (lo.0 +ℤ pos 1) (pos 0) (negsuc 0) t in
      let at : (f : ℕ) → _ = moved_is hi.0 (pos 0) (pos 1) p in
      let after : (f : ℕ) → _ = moved_is (lo.0 +ℤ pos 1) (pos 0) (negsuc 0) t in
      let eligible : Eligible E D n source bs u =
      record {
        keeps = keeps_moved (lo.0 +ℤ pos 1) (pos 0) (negsuc 0) (omega (arith, ints)) t
            (λ f hf. still lo.0 hi.0 (p f) (t f) (p e) lo.2 hi.1 (lo.3 f hf) (at f) h)
            (keeps_moved hi.0 (pos 0) (pos 1) (omega (arith, ints)) p hi.3 places.eligible.keeps);
        starts = omega (arith, ints, lo.1, lo.2, hi.1, at source, after source);
        near = λ f hf. omega (arith, ints, hi.2, at f, after f, places.eligible.near f hf);
      } in
      omega (arith, ints, lo.2, hi.1, at e, after e, places.latest u eligible e he)
    where
      -- the lower band is still empty when it and all above it up to the upper band has gone up by one
      still : (lo hi x y z : ℤ) → (lo +ℤ pos D) ≤ℤ (pos 0 +ℤ span D) → z ≤ℤ hi → (x ≤ℤ lo) ⊎ ((lo +ℤ pos D) <ℤ x)
          → ((hi <ℤ x) × (y ≡ x +ℤ pos 0)) ⊎ ((x ≤ℤ hi) × (y ≡ x +ℤ pos 1)) → span D <ℤ z
          → (y ≤ℤ (lo +ℤ pos 1)) ⊎ (((lo +ℤ pos 1) +ℤ pos D) <ℤ y)
      still lo hi x y z h2 h3 (inl a) w h = inl (omega (arith, ints))
      still lo hi x y z h2 h3 (inr a) w h = inr (omega (arith, ints))

  -- the place tells of every timetable: an event comes at most v after the source in all of them, exactly where its place is at most v
  pub place_tells : (p : Timetable) → Places E D n source bs p → (e : ℕ) → e < n → (v : ℤ) → v ≤ℤ span D
      → (p e ≤ℤ v → (t : Timetable) → KeepsAll E bs t → t e ≤ℤ (t source +ℤ v))
      × (((t : Timetable) → KeepsAll E bs t → t e ≤ℤ (t source +ℤ v)) → p e ≤ℤ v)
  place_tells p places e he v hv = (
    λ h t keeps.
        omega (arith, ints, near p places e he (omega (arith, ints)) (shifted (neg_ℤ (t source)) t) (keeps_all_shifted laws (neg_ℤ (t source)) t bs keeps) (omega (arith, ints))),
    λ h. let starts : p source ≡ pos 0 = places.eligible.starts in omega (arith, ints, h p places.eligible.keeps),
  )
