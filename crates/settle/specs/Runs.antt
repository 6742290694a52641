-- Runs of calls on a new sheet: what stands after them, what each call answers, and what is promised over a whole run.
use Rattle.std.specs.Prelude.{◌≡◌, ℕ, ◌<◌, ◌≤◌, Bool, List, [], ◌∷◌, map, length, take, drop, Result}
use Rattle.rules.specs.declared.RuleSet.{Ghosts}
use Rattle.rules.specs.Laws.{Admits, Enough}
use Rattle.timing.specs.Bounds.{term_of}
use Rattle.timing.specs.Model.{BoundModel}
use Rattle.timing.specs.declared.bound.Term.{Term}
use Rattle.sheet.specs.Model.{sheet_of}
use Rattle.sheet.specs.Plain.{PlainSheet, new_sheet, event_call, bound_call, strike_call}
use Rattle.sheet.specs.declared.fault.Refusal.{Refusal}
use Rattle.settle.specs.declared.reading.Reading.{Reading}
use Rattle.settle.specs.declared.replay.Call.{Call}
use Rattle.settle.specs.declared.replay.Call.TheVariants.{Event, Bound, Strike, Settle, Read, Knot, Reopen}
use Rattle.settle.specs.declared.replay.Answer.{Answer}
use Rattle.settle.specs.declared.replay.Answer.TheVariants.{Added, Struck, ReadAs, InKnot, Moved, OutOfPlace}
use Rattle.settle.specs.declared.replay.Sheet.{Sheet}
use Rattle.settle.specs.declared.replay.Sheet.TheVariants.{Drawn as IsDrawn, Settled as IsSettled}
use Rattle.settle.specs.Held.{events}
use Rattle.settle.specs.Meaning.{Reads, Knots}
use Rattle.settle.specs.Model.{standing, read_of, knot_of, HoldsRight}
use Rattle.settle.specs.Promise.{ReadAnswers, KnotAnswers, Promise}

-- what stands after some calls: a plain sheet, drawn, or settled from a source
pub data Stage : Type 0 where
  drawn : PlainSheet → Stage
  settled : PlainSheet → ℕ → Stage

-- the bound that a call asks for
abbrev pub asked : ℕ → ℕ → ℕ → List Term → BoundModel
asked kind k to terms = record { to = to; kind = kind; k = k; terms = map term_of terms }

-- event, bound and strike act on a drawn sheet; settle, read, knot and reopen leave events and bounds alone
abbrev pub after_call : Admits → Stage → Call → Stage
after_call A (drawn s) (Event name) = drawn (event_call s name.now).after
after_call A (drawn s) (Bound kind k to terms) = drawn (bound_call A s (asked kind k to terms.now)).after
after_call A (drawn s) (Strike i) = drawn (strike_call s i).after
after_call A (drawn s) (Settle source) = settled s source
after_call A (drawn s) (Read e) = drawn s
after_call A (drawn s) (Knot i) = drawn s
after_call A (drawn s) Reopen = drawn s
after_call A (settled s source) (Event name) = settled s source
after_call A (settled s source) (Bound kind k to terms) = settled s source
after_call A (settled s source) (Strike i) = settled s source
after_call A (settled s source) (Settle e) = settled s source
after_call A (settled s source) (Read e) = settled s source
after_call A (settled s source) (Knot i) = settled s source
after_call A (settled s source) Reopen = drawn s

abbrev pub after_calls : Admits → Stage → List Call → Stage
after_calls A stage [] = stage
after_calls A stage (c ∷ calls) = after_calls A (after_call A stage c) calls

-- the first sheet is new
abbrev pub stage_after : Admits → List Call → Stage
stage_after A calls = after_calls A (drawn new_sheet) calls

-- what a call answers on what stands before it
abbrev pub Told : Admits → Enough → Stage → Call → Answer → Type 0
Told A E (drawn s) (Event name) a = a ≡ Added (event_call s name.now).answer
Told A E (drawn s) (Bound kind k to terms) a = a ≡ Added (bound_call A s (asked kind k to terms.now)).answer
Told A E (drawn s) (Strike i) a = a ≡ Struck (strike_call s i).answer
Told A E (drawn s) (Settle source) a = a ≡ Moved
Told A E (drawn s) (Read e) a = a ≡ OutOfPlace
Told A E (drawn s) (Knot i) a = a ≡ OutOfPlace
Told A E (drawn s) Reopen a = a ≡ OutOfPlace
Told A E (settled s source) (Event name) a = a ≡ OutOfPlace
Told A E (settled s source) (Bound kind k to terms) a = a ≡ OutOfPlace
Told A E (settled s source) (Strike i) a = a ≡ OutOfPlace
Told A E (settled s source) (Settle e) a = a ≡ OutOfPlace
Told A E (settled s source) (Read e) a = (r : Result Reading Refusal) × (a ≡ ReadAs r) × Reads E s source e r
Told A E (settled s source) (Knot i) a = (r : Result Bool Refusal) × (a ≡ InKnot r) × Knots E s source i r
Told A E (settled s source) Reopen a = a ≡ Moved

-- each call of a run is answered so
abbrev pub EachTold : Admits → Enough → Stage → List Call → List Answer → Type 0
EachTold A E stage [] [] = Unit {0}
EachTold A E stage [] (a ∷ answers) = ⊥
EachTold A E stage (c ∷ calls) [] = ⊥
EachTold A E stage (c ∷ calls) (a ∷ answers) = Told A E stage c a × EachTold A E (after_call A stage c) calls answers

-- until the sheet is reopened, what read and knot answer are these
abbrev pub AnsweredBy : ReadAnswers → KnotAnswers → List Call → List Answer → Type 0
AnsweredBy read knot [] answers = Unit {0}
AnsweredBy read knot (c ∷ calls) [] = ⊥
AnsweredBy read knot (Event name ∷ calls) (a ∷ answers) = AnsweredBy read knot calls answers
AnsweredBy read knot (Bound kind k to terms ∷ calls) (a ∷ answers) = AnsweredBy read knot calls answers
AnsweredBy read knot (Strike i ∷ calls) (a ∷ answers) = AnsweredBy read knot calls answers
AnsweredBy read knot (Settle e ∷ calls) (a ∷ answers) = AnsweredBy read knot calls answers
AnsweredBy read knot (Read e ∷ calls) (a ∷ answers) = (a ≡ ReadAs (read e)) × AnsweredBy read knot calls answers
AnsweredBy read knot (Knot i ∷ calls) (a ∷ answers) = (a ≡ InKnot (knot i)) × AnsweredBy read knot calls answers
AnsweredBy read knot (Reopen ∷ calls) (a ∷ answers) = Unit {0}

-- Whenever the sheet stands settled from one of its events, there are an answer for each event and one for each bound
-- that keep the promise, and the calls that follow, until the sheet is reopened, answer so.
abbrev pub WheneverSettled : Admits → Enough → List Call → List Answer → Type 0
WheneverSettled A E calls answers =
    (i : ℕ) → i ≤ length calls → (s : PlainSheet) (source : ℕ) → stage_after A (take i calls) ≡ settled s source → source < events s
    → (read : ReadAnswers) × (knot : KnotAnswers) × Promise E s source read knot × AnsweredBy read knot (drop i calls) (drop i answers)

-- a sheet of the program: what stands in it, its rules, and whether what it holds is right
abbrev pub stage_of : {R : Type 0} {G : Ghosts R} → Sheet R G → Stage
stage_of (IsDrawn d) = drawn (sheet_of d)
stage_of (IsSettled t) = settled (standing t) t.source

abbrev pub rules_in : {R : Type 0} {G : Ghosts R} → Sheet R G → R
rules_in (IsDrawn d) = d.rules
rules_in (IsSettled t) = t.drawn.rules

abbrev pub RightIn : {R : Type 0} {G : Ghosts R} → Enough → Sheet R G → Type 0
RightIn E (IsDrawn d) = Unit {0}
RightIn E (IsSettled t) = HoldsRight E t

-- what can be read of it keeps the promise, where it stands settled from one of its events
abbrev pub KeepsPromise : {R : Type 0} {G : Ghosts R} → Enough → Sheet R G → Type 0
KeepsPromise E (IsDrawn d) = Unit {0}
KeepsPromise E (IsSettled t) = t.source < events (standing t) → Promise E (standing t) t.source (read_of t) (knot_of t)

-- one call: from a sheet to the next
pub record Stepped {R : Type 0} {G : Ghosts R} (A : Admits) (E : Enough) (before : Sheet R G) (c : Call) (after : Sheet R G) (a : Answer) : Type 0 where
  pub told : Told A E (stage_of before) c a
  pub stage : stage_of after ≡ after_call A (stage_of before) c
  pub rules : rules_in after ≡ rules_in before

-- a whole run on a new sheet, with the sheet at the end
pub record Replays {R : Type 0} {G : Ghosts R} (A : Admits) (E : Enough) (rules : R) (calls : List Call) (answers : List Answer) (last : Sheet R G) : Type 0 where
  pub told : EachTold A E (drawn new_sheet) calls answers
  pub promised : WheneverSettled A E calls answers
  pub stage : stage_of last ≡ stage_after A calls
  pub keeps : rules_in last ≡ rules
  pub right : RightIn E last
  pub last_promised : KeepsPromise E last
