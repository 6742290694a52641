-- What is found by settling from the first event: a knot, or some timetable that keeps the bounds.
use Rattle.std.proofs.Common.{◌≡◌, ℕ, zero, suc, ◌≤◌, Bool, true, false, cond, ltb, List, [], ◌∷◌, ◌++◌, length, get_or, pos, Result, refl, ap, ◌∙◌, subst, inl, arith}
use Rattle.std.specs.List.{AllByRecursion}
use Rattle.std.proofs.lemmas.Bool.{cond-true, cond_both, both_ways, lt-ltb}
use Rattle.rules.specs.Sets.{vote_enough}
use Rattle.timing.specs.Limits.{delay_limit}
use Rattle.timing.specs.Model.{BoundModel, BoundWithin, IsSheet}
use Rattle.timing.specs.Timetables.{KeepsAll, times}
use Rattle.sheet.specs.Plain.{PlainSheet}
use Rattle.sheet.specs.declared.fault.Refusal.{Refusal}
use Rattle.settle.specs.declared.reading.Reading.{Reading}
use Rattle.settle.specs.declared.settled.Found.{Found}
use Rattle.settle.specs.declared.settled.Found.TheVariants.{NoSource, Placed, Knotted}
use Rattle.settle.specs.Held.{events, read_held, knot_held}
use Rattle.settle.specs.Meaning.{Right, Consistent}
use Rattle.records.specs.declared.entry.Need.{Need}
use Rattle.report.specs.Lines.{knot_line, knot_lines}
use Rattle.report.specs.Puts.{said_yes, said_contradictory}
use Rattle.report.specs.Report.{Findings}

-- the bounds to which knot says yes are the flags
knot_same : (s : PlainSheet) (flags : List Bool) (n : ℕ) → n ≤ length s.bounds
    → knot_lines (λ i. said_yes (knot_held s (Knotted flags) i)) n ≡ knot_lines (λ i. get_or flags i false) n
knot_same s flags zero le = refl
knot_same s flags (suc n) le =
    let yes : said_yes (knot_held s (Knotted flags) n) ≡ get_or flags n false = ap said_yes (cond-true _ _ _ (lt-ltb n (length s.bounds) (omega arith))) in
    ap (λ (l : List ℕ). l ++ cond (said_yes (knot_held s (Knotted flags) n)) (knot_line n) []) (knot_same s flags n (omega arith))
    ∙ ap (λ (b : Bool). knot_lines (λ i. get_or flags i false) n ++ cond b (knot_line n) []) yes

pub knot_found : (s : PlainSheet) (needs : List Need) (source : ℕ) (found : Found) → Right vote_enough s source found → said_contradictory (read_held s found 0) ≡ true
    → Findings s needs (knot_lines (λ i. said_yes (knot_held s found i)) (length s.bounds))
knot_found s needs source NoSource right e = absurd (both_ways false refl e)
knot_found s needs source (Placed places) right e =
    absurd (both_ways _ (cond_both (ltb 0 (events s)) _ _ (λ (r : Result Reading Refusal). said_contradictory r ≡ false) (λ q. refl) (λ q. refl)) e)
knot_found s needs source (Knotted flags) right e = inl (right.1, (_, right.2, knot_same s flags (length s.bounds) (omega arith)))

-- a sheet without events has no bounds
none_kept : (bs : List BoundModel) → AllByRecursion (BoundWithin 0 delay_limit) bs → KeepsAll vote_enough bs (λ _. pos 0)
none_kept [] h = tt
none_kept (b ∷ bs) h = absurd (omega (arith, h.0.0))

pub keeping_found : (s : PlainSheet) (source : ℕ) (found : Found) → IsSheet 64 delay_limit (events s) s.bounds → source ≡ 0 → Right vote_enough s source found
    → said_contradictory (read_held s found 0) ≡ false → Consistent vote_enough s.bounds
keeping_found s source NoSource sheet from right e =
    let none : events s ≡ 0 = omega arith in
    ((λ _. pos 0), none_kept s.bounds (subst (λ (n : ℕ). AllByRecursion (BoundWithin n delay_limit) s.bounds) none sheet.bounds))
keeping_found s source (Placed places) sheet from right e = (times places, right.1.eligible.keeps)
keeping_found s source (Knotted flags) sheet from right e =
    absurd (both_ways _ e (ap said_contradictory (cond-true _ _ _ (lt-ltb 0 (events s) (omega (arith, right.0))))))
