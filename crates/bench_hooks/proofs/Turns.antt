-- One settling more.
use Rattle.std.proofs.Common.{◌≡◌, ℕ, ◌≤◌, ◌+◌, Bool, true, false, sym, ap, ◌∙◌, subst, arith}
use Rattle.std.proofs.lemmas.Bool.{cond-true, lt-ltb}
use Rattle.std.specs.Prelude.{Result, is_ok}
use Rattle.std.specs.Int.{from_bool}
use Rattle.rules.specs.declared.RuleSet.{Ghosts}
use Rattle.rules.specs.Laws.{Enough, Laws}
use Rattle.timing.specs.Timetables.{times}
use Rattle.sheet.specs.declared.drawn.Drawn.{Drawn}
use Rattle.sheet.specs.Model.{sheet_of}
use Rattle.sheet.specs.Plain.{PlainSheet}
use Rattle.sheet.specs.declared.fault.Refusal.{Refusal}
use Rattle.settle.specs.declared.reading.Reading.{Reading}
use Rattle.settle.specs.declared.settled.Settled.{Settled}
use Rattle.settle.specs.declared.settled.Found.{Found}
use Rattle.settle.specs.declared.settled.Found.TheVariants.{NoSource, Placed, Knotted}
use Rattle.settle.specs.Held.{events, read_held}
use Rattle.settle.specs.Meaning.{Right}
use Rattle.settle.specs.Model.{read_of}
use Rattle.settle.proofs.Meant.{right_from}
use Rattle.bench_hooks.specs.Times.{Counts}

-- a settling counts where something is read of the source
abbrev pub one_if_read : Result Reading Refusal → ℕ
one_if_read answer = from_bool (is_ok answer)

pub at_most_one : (n : ℕ) (read : Bool) → n ≡ from_bool read → n ≤ 1
at_most_one n true e = omega (arith, e)
at_most_one n false e = omega (arith, e)

turn : (E : Enough) (s : PlainSheet) (source n count : ℕ) (found : Found) → Right E s source found → Counts E s source n count
    → Counts E s source (n + 1) (count + one_if_read (read_held s found source))
turn E s source n count NoSource right h = record {
  all = λ known some. absurd (omega arith);
  no_source = λ none. let z = h.no_source none in omega arith;
  knotted = λ none. let z = h.knotted none in omega arith;
}
turn E s source n count (Placed places) right h =
    let one : one_if_read (read_held s (Placed places) source) ≡ 1 = ap one_if_read (cond-true _ _ _ (lt-ltb source (events s) right.0)) in
    record {
      all = λ known some. let z = h.all known some in omega arith;
      no_source = λ none. absurd (omega (arith, right.0));
      knotted = λ none. absurd (none (times places) right.1.eligible.keeps);
    }
turn E s source n count (Knotted knot) right h =
    let zero : one_if_read (read_held s (Knotted knot) source) ≡ 0 = ap one_if_read (cond-true _ _ _ (lt-ltb source (events s) right.0)) in
    record {
      all = λ known some. absurd (right.1 some.0 some.1);
      no_source = λ none. absurd (omega (arith, right.0));
      knotted = λ none. let z = h.knotted none in omega arith;
    }

-- a turn of the loop, on the sheet d that was settled as t
pub turned : {R : Type 0} {G : Ghosts R} (laws : (r : R) → Laws (G.admitted r) (G.suffices r)) (d : Drawn R G) (t : Settled R G) (source n count one : ℕ) → t.drawn ≡ d → t.source ≡ source
    → one ≡ one_if_read (read_of t source) → Counts (G.suffices d.rules) (sheet_of d) source n count → Counts (G.suffices d.rules) (sheet_of d) source (n + 1) (count + one)
turned {R} {G} laws d t source n count one moved from is h =
    let E = G.suffices d.rules in
    let all = is ∙ ap (λ (x : Drawn R G). one_if_read (read_held (sheet_of x) t.found source)) moved in
    subst (λ (k : ℕ). Counts E (sheet_of d) source (n + 1) (count + k)) (sym all)
    (turn E (sheet_of d) source n count t.found (right_from laws t d source moved from) h)
