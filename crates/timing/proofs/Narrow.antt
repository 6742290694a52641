-- A sheet of n events among more: its bounds speak of the n alone, and so do its places.
use Rattle.std.proofs.Common.{◌≡◌, ℕ, ◌<◌, ◌≤◌, cond, ltb, List, sym, ◌∙◌, inl, inr, arith}
use Rattle.std.specs.List.{AllByRecursion}
use Rattle.std.proofs.lemmas.Int.{ints}
use Rattle.std.proofs.ByRecursion.{All-weaker}
use Rattle.std.proofs.lemmas.Bool.{cases_lt, cond-true, cond-false, lt-ltb, le-ltb}
use Rattle.rules.specs.Laws.{Admits, Enough, Laws}
use Rattle.timing.specs.Model.{BoundModel, TermWithin, BoundWithin}
use Rattle.timing.specs.Timetables.{Timetable, Keeps}
use Rattle.timing.specs.Places.{far_mark, Places}
use Rattle.timing.proofs.Keeping.{all_both, keeps_like}

pub bound_wider : (n m D : ℕ) → n ≤ m → (b : BoundModel) → BoundWithin n D b → BoundWithin m D b
bound_wider n m D h b w = (omega arith, All-weaker (TermWithin n D) (TermWithin m D) (λ term v. (omega arith, v.1, v.2)) b.terms w.1)

pub places_narrow : {A : Admits} {E : Enough} → Laws A E → (n m D source : ℕ) (bs : List BoundModel) → AllByRecursion (BoundWithin n D) bs → source < n → n ≤ m
    → (p : Timetable) → Places E D m source bs p → Places E D n source bs p
places_narrow {A} {E} laws n m D source bs within inside h p places =
    record {
      eligible = record { keeps = places.eligible.keeps; starts = places.eligible.starts; near = λ e l. places.eligible.near e (omega arith) };
      latest = λ t eligible e l.
          let w : Timetable = wide t in
          let q = places.latest w
          (record {
            keeps = all_both (BoundWithin n D) (Keeps E t) (Keeps E w) (keeps_like laws n D t w (λ f k. sym (wide_in t f k))) bs within eligible.keeps;
            starts = wide_in t source inside ∙ eligible.starts;
            near = λ f k. elim (cases_lt f n) [ inl i ↦ omega (arith, ints, wide_in t f i, eligible.near f i) | inr i ↦ omega (arith, ints, wide_out t f i) ];
          }) e (omega arith) in
          omega (arith, ints, wide_in t e l);
    }
  where
    -- the other events at the far mark
    wide : Timetable → Timetable
    wide t e = cond (ltb e n) (t e) (far_mark D)

    wide_in : (t : Timetable) (e : ℕ) → e < n → wide t e ≡ t e
    wide_in t e l = cond-true (ltb e n) (t e) (far_mark D) (lt-ltb e n l)

    wide_out : (t : Timetable) (e : ℕ) → n ≤ e → wide t e ≡ far_mark D
    wide_out t e l = cond-false (ltb e n) (t e) (far_mark D) (le-ltb e n l)
