-- What settling finds, as it is handed out.
use Rattle.std.proofs.Common.{◌≡◌, ℕ, false, List, ◌++◌, length, get_or, drop, Ok, Err, sym, refl, ap, ◌∙◌, subst, arith}
use Rattle.std.specs.Prelude.{EachIndex}
use Rattle.std.specs.List.{HoldsAt}
use Rattle.std.proofs.lemmas.Bool.{cond-true, lt-ltb}
use Rattle.rules.specs.declared.RuleSet.{Ghosts}
use Rattle.rules.specs.Laws.{Enough, Laws}
use Rattle.timing.specs.Timetables.{times}
use Rattle.sheet.specs.declared.drawn.Drawn.{Drawn}
use Rattle.sheet.specs.Model.{sheet_of}
use Rattle.sheet.specs.Plain.{PlainSheet}
use Rattle.sheet.specs.declared.fault.Refusal.{Refusal}
use Rattle.sheet.specs.declared.fault.Refusal.TheVariants.{Contradictory}
use Rattle.settle.specs.declared.reading.Reading.{Reading}
use Rattle.settle.specs.declared.settled.Settled.{Settled}
use Rattle.settle.specs.declared.settled.Found.{Found}
use Rattle.settle.specs.declared.settled.Found.TheVariants.{NoSource, Placed, Knotted}
use Rattle.settle.specs.Held.{events, reading_of, read_held, knot_held}
use Rattle.settle.specs.Meaning.{Right}
use Rattle.settle.specs.Model.{read_of, knot_of}
use Rattle.settle.proofs.Meant.{right_from}
use Rattle.embed.specs.declared.failure.Failure.TheVariants.{Sheet}
use Rattle.embed.specs.declared.slots.EventReading.{EventReading}
use Rattle.embed.specs.Settling.{slot_of, slot_said, flag_of, flag_said, filled, Ready, SheetSettles}
use Rattle.embed.proofs.Filling.{filled_by, filled_same}

module _ (E : Enough) (s : PlainSheet) (source : ℕ) (slots : List EventReading) (flags : List ℕ) (ready : Ready s source slots flags) where
  -- nothing is read of the source: the sheet is contradictory, and the knot is handed out
  knot_filled : (found : Found) (refusal : Refusal) → Right E s source found → Err refusal ≡ read_held s found source
      → SheetSettles E s source slots flags slots (filled (λ i. flag_said (knot_held s found i)) (length s.bounds) flags) (Err (Sheet refusal))
  knot_filled NoSource refusal right e = absurd (omega (arith, ready.known))
  knot_filled (Placed places) refusal right e =
      let is : Err refusal ≡ Ok (reading_of (times places) source) = e ∙ cond-true _ _ _ (lt-ltb source (events s) ready.known) in
      let z : ◌≡◌ {A = ℕ} 0 1 = cc in absurd (omega arith)
  knot_filled (Knotted knot) refusal right e =
      let is : Err refusal ≡ Err Contradictory = e ∙ cond-true _ _ _ (lt-ltb source (events s) ready.known) in
      let which : Contradictory ≡ refusal = cc in
      let same = filled_same (λ i. flag_said (knot_held s (Knotted knot) i)) flags (λ i. flag_of (get_or knot i false)) (length s.bounds)
      (λ i lt. ap flag_said (cond-true _ _ _ (lt-ltb i (length s.bounds) lt))) in
      subst (λ (r : Refusal). SheetSettles E s source slots flags slots (filled (λ i. flag_said (knot_held s (Knotted knot) i)) (length s.bounds) flags) (Err (Sheet r)))
      which (ready, right.1, refl, (_, right.2, same))

  -- the source is read: the places are handed out
  events-filled : (found : Found) (x : Reading) → Right E s source found → Ok x ≡ read_held s found source
      → SheetSettles E s source slots flags (filled (λ e. slot_said (read_held s found e)) (events s) slots) flags (Ok (events s))
  events-filled NoSource x right e = absurd (omega (arith, ready.known))
  events-filled (Placed places) x right e = (
    ready,
    refl,
    refl,
    (
      times places,
      right.1,
      filled_same (λ e. slot_said (read_held s (Placed places) e)) slots (λ e. slot_of (reading_of (times places) e)) (events s)
          (λ e lt. ap slot_said (cond-true _ _ _ (lt-ltb e (events s) lt))),
    ),
  )
  events-filled (Knotted knot) x right e =
      let is : Ok x ≡ Err Contradictory = e ∙ cond-true _ _ _ (lt-ltb source (events s) ready.known) in
      let z : ◌≡◌ {A = ℕ} 0 1 = cc in absurd (omega arith)

-- the same of a settled sheet t, which is the drawn sheet d settled from the source
module _ {R : Type 0} {G : Ghosts R} (laws : (r : R) → Laws (G.admitted r) (G.suffices r)) (d : Drawn R G) (source : ℕ) (slots : List EventReading) (flags : List ℕ)
    (ready : Ready (sheet_of d) source slots flags) where
  pub knot_handed : (t : Settled R G) (refusal : Refusal) (front : List ℕ) (n : ℕ) → t.drawn ≡ d → t.source ≡ source
      → Err refusal ≡ read_of t source → n ≡ length (sheet_of d).bounds → length front ≡ n
      → EachIndex front (λ k. HoldsAt (λ (x : ℕ). x ≡ flag_said (knot_of t k)) front k)
      → SheetSettles (G.suffices d.rules) (sheet_of d) source slots flags slots (front ++ drop n flags) (Err (Sheet refusal))
  knot_handed t refusal front n moved from read many long each =
      let put = knot_filled (G.suffices d.rules) (sheet_of d) source slots flags ready t.found refusal (right_from laws t d source moved from)
      (read ∙ ap (λ (x : Drawn R G). read_held (sheet_of x) t.found source) moved) in
      let all = filled_by (λ i. flag_said (knot_of t i)) flags n front long each
      ∙ ap (λ (m : ℕ). filled (λ i. flag_said (knot_of t i)) m flags) many
      ∙ ap (λ (x : Drawn R G). filled (λ i. flag_said (knot_held (sheet_of x) t.found i)) (length (sheet_of d).bounds) flags) moved in
      subst (λ (l : List ℕ). SheetSettles (G.suffices d.rules) (sheet_of d) source slots flags slots l (Err (Sheet refusal))) (sym all) put

  pub events-handed : (t : Settled R G) (x : Reading) (front : List EventReading) (n : ℕ) → t.drawn ≡ d → t.source ≡ source
      → Ok x ≡ read_of t source → n ≡ events (sheet_of d) → length front ≡ n
      → EachIndex front (λ k. HoldsAt (λ (y : EventReading). y ≡ slot_said (read_of t k)) front k)
      → SheetSettles (G.suffices d.rules) (sheet_of d) source slots flags (front ++ drop n slots) flags (Ok n)
  events-handed t x front n moved from read many long each =
      let put = events-filled (G.suffices d.rules) (sheet_of d) source slots flags ready t.found x (right_from laws t d source moved from)
      (read ∙ ap (λ (y : Drawn R G). read_held (sheet_of y) t.found source) moved) in
      let all = filled_by (λ e. slot_said (read_of t e)) slots n front long each
      ∙ ap (λ (m : ℕ). filled (λ e. slot_said (read_of t e)) m slots) many
      ∙ ap (λ (y : Drawn R G). filled (λ e. slot_said (read_held (sheet_of y) t.found e)) (events (sheet_of d)) slots) moved in
      subst (λ (m : ℕ). SheetSettles (G.suffices d.rules) (sheet_of d) source slots flags (front ++ drop n slots) flags (Ok m)) (sym many)
      (subst (λ (l : List EventReading). SheetSettles (G.suffices d.rules) (sheet_of d) source slots flags l flags (Ok (events (sheet_of d)))) (sym all) put)
