-- A run, call by call.
use Rattle.std.proofs.Common.{◌≡◌, ℕ, zero, suc, ◌+◌, ◌<◌, ◌≤◌, List, [], ◌∷◌, ◌++◌, length, get_or, take, drop, sym, refl, ap, ◌∙◌, subst, inl, inr, arith}
use Rattle.std.proofs.lemmas.List.{take_more, take_all}
use Rattle.std.proofs.lemmas.Bool.{cases_lt}
use Rattle.rules.specs.declared.RuleSet.{Ghosts}
use Rattle.rules.specs.Laws.{Admits, Enough, Laws}
use Rattle.timing.specs.Limits.{delay_limit}
use Rattle.timing.specs.Model.{IsSheet}
use Rattle.sheet.specs.Model.{sheet_of}
use Rattle.sheet.specs.Plain.{PlainSheet, new_sheet}
use Rattle.sheet.specs.declared.drawn.Drawn.{Drawn}
use Rattle.sheet.proofs.Standing.{sheet_is}
use Rattle.settle.specs.declared.settled.Found.{Found}
use Rattle.settle.specs.declared.replay.Call.{Call}
use Rattle.settle.specs.declared.replay.Call.TheVariants.{Event, Bound, Strike, Settle, Read, Knot, Reopen}
use Rattle.settle.specs.declared.replay.Answer.{Answer}
use Rattle.settle.specs.declared.replay.Answer.TheVariants.{ReadAs, InKnot}
use Rattle.settle.specs.declared.replay.Sheet.{Sheet}
use Rattle.settle.specs.declared.replay.Sheet.TheVariants.{Drawn as IsDrawn, Settled as IsSettled}
use Rattle.settle.specs.Held.{events, read_held, knot_held}
use Rattle.settle.specs.Meaning.{Right}
use Rattle.settle.specs.Model.{standing}
use Rattle.settle.specs.Runs.{Stage, drawn, settled, after_call, after_calls, Told, EachTold, AnsweredBy, WheneverSettled, stage_of, rules_in, RightIn, KeepsPromise, Stepped, Replays}
use Rattle.settle.proofs.Meant.{reads_from, knots_from, reads_unique, knots_unique, holds_right}
use Rattle.settle.proofs.Promises.{promise_from}

after_push : (A : Admits) (m : Stage) (cs : List Call) (c : Call) → after_calls A m (cs ++ c ∷ []) ≡ after_call A (after_calls A m cs) c
after_push A m [] c = refl
after_push A m (x ∷ cs) c = after_push A (after_call A m x) cs c

told_push : (A : Admits) (E : Enough) (m : Stage) (cs : List Call) (xs : List Answer) (c : Call) (a : Answer)
    → EachTold A E m cs xs → Told A E (after_calls A m cs) c a → EachTold A E m (cs ++ c ∷ []) (xs ++ a ∷ [])
told_push A E m [] [] c a r t = (t, tt)
told_push A E m [] (x ∷ xs) c a r t = absurd r
told_push A E m (b ∷ cs) [] c a r t = absurd r
told_push A E m (b ∷ cs) (x ∷ xs) c a r t = (r.0, told_push A E (after_call A m b) cs xs c a r.1 t)

told-drop : (A : Admits) (E : Enough) (m : Stage) (i : ℕ) (cs : List Call) (xs : List Answer)
    → EachTold A E m cs xs → EachTold A E (after_calls A m (take i cs)) (drop i cs) (drop i xs)
told-drop A E m zero cs xs r = r
told-drop A E m (suc i) [] [] r = tt
told-drop A E m (suc i) [] (x ∷ xs) r = absurd r
told-drop A E m (suc i) (c ∷ cs) [] r = absurd r
told-drop A E m (suc i) (c ∷ cs) (x ∷ xs) r = told-drop A E (after_call A m c) i cs xs r.1

-- something right was found for a sheet from a source
pub record Settling (E : Enough) (s : PlainSheet) (source : ℕ) : Type 0 where
  pub found : Found
  pub right : Right E s source found
  pub sheet : IsSheet 64 delay_limit (events s) s.bounds

settling_in : {R : Type 0} {G : Ghosts R} (laws : (r : R) → Laws (G.admitted r) (G.suffices r)) (x : Sheet R G) (s : PlainSheet) (source : ℕ)
    → stage_of x ≡ settled s source → Settling (G.suffices (rules_in x)) s source
settling_in laws (IsDrawn d) s source q = absurd (let z : ◌≡◌ {A = ℕ} 0 1 = cc in omega arith)
settling_in {G = G} laws (IsSettled t) s source q =
    let same : standing t ≡ s = cc in
    let from : t.source ≡ source = cc in
    let E = G.suffices t.drawn.rules in
    let P : PlainSheet → Type 0 = λ p. Settling E p source in
    let Q : ℕ → Type 0 = λ n. Settling E (standing t) n in
    subst P same (subst Q from (record { found = t.found; right = holds_right laws t; sheet = sheet_is t.drawn }))

-- while it stands settled so, the calls answer by what was found
answered : (A : Admits) (E : Enough) (s : PlainSheet) (source : ℕ) (found : Found) → Right E s source found
    → (cs : List Call) (xs : List Answer) → EachTold A E (settled s source) cs xs → AnsweredBy (read_held s found) (knot_held s found) cs xs
answered A E s source found right [] xs r = tt
answered A E s source found right (c ∷ cs) [] r = absurd r
answered A E s source found right (Event name ∷ cs) (x ∷ xs) r = answered A E s source found right cs xs r.1
answered A E s source found right (Bound kind k to terms ∷ cs) (x ∷ xs) r = answered A E s source found right cs xs r.1
answered A E s source found right (Strike i ∷ cs) (x ∷ xs) r = answered A E s source found right cs xs r.1
answered A E s source found right (Settle e ∷ cs) (x ∷ xs) r = answered A E s source found right cs xs r.1
answered A E s source found right (Read e ∷ cs) (x ∷ xs) r = (
  r.0.1 ∙ ap ReadAs (reads_unique E s source e r.0.0 (read_held s found e) r.0.2 (reads_from E s source found right e)),
  answered A E s source found right cs xs r.1,
)
answered A E s source found right (Knot i ∷ cs) (x ∷ xs) r = (
  r.0.1 ∙ ap InKnot (knots_unique E s source i r.0.0 (knot_held s found i) r.0.2 (knots_from E s source found right i)),
  answered A E s source found right cs xs r.1,
)
answered A E s source found right (Reopen ∷ cs) (x ∷ xs) r = tt

module _ {R : Type 0} {G : Ghosts R} where
  -- what a run under these rules has done after k calls
  pub record SoFar (r : R) (m : Stage) (x : Sheet R G) (cs : List Call) (k : ℕ) (xs : List Answer) : Type 0 where
    pub rules : rules_in x ≡ r
    pub stage : stage_of x ≡ after_calls (G.admitted r) m (take k cs)
    pub told : EachTold (G.admitted r) (G.suffices r) m (take k cs) xs
    pub settlings : (i : ℕ) → i ≤ k → (s : PlainSheet) (source : ℕ) → after_calls (G.admitted r) m (take i cs) ≡ settled s source → Settling (G.suffices r) s source

  module _ (laws : (r : R) → Laws (G.admitted r) (G.suffices r)) where
    pub so_far_more : (r : R) (m : Stage) (x y : Sheet R G) (cs : List Call) (k : ℕ) (d : Call) (a : Answer) (xs ys : List Answer)
        → k < length cs → SoFar r m x cs k xs → Stepped (G.admitted (rules_in x)) (G.suffices (rules_in x)) x (get_or cs k d) y a → ys ≡ xs ++ a ∷ []
        → SoFar r m y cs (k + 1) ys
    so_far_more r m x y cs k d a xs ys h so step ey =
        let P : R → Type 0 = λ q. Stepped (G.admitted q) (G.suffices q) x (get_or cs k d) y a in
        let st = subst P so.rules step in
        let e = take_more cs k d h in
        let Q : Stage → Type 0 = λ n. Told (G.admitted r) (G.suffices r) n (get_or cs k d) a in
        let U : List Call → Type 0 = λ l. EachTold (G.admitted r) (G.suffices r) m l ys in
        let V : List Answer → Type 0 = λ l. EachTold (G.admitted r) (G.suffices r) m (take k cs ++ get_or cs k d ∷ []) l in
        let stage : stage_of y ≡ after_calls (G.admitted r) m (take (k + 1) cs) =
        st.stage ∙ ap (λ n. after_call (G.admitted r) n (get_or cs k d)) so.stage ∙ sym (after_push (G.admitted r) m (take k cs) (get_or cs k d)) ∙ ap (after_calls (G.admitted r) m) (sym e) in
        let same : rules_in y ≡ r = st.rules ∙ so.rules in
        record {
          rules = same;
          stage = stage;
          told = subst U (sym e) (subst V (sym ey) (told_push (G.admitted r) (G.suffices r) m (take k cs) xs (get_or cs k d) a so.told (subst Q so.stage st.told)));
          settlings = λ i l s source q.
              elim (cases_lt i (k + 1)) [
                | inl lt ↦ so.settlings i (omega arith) s source q
                | inr ge ↦
                    (let last : i ≡ k + 1 = omega arith in
                    let W : R → Type 0 = λ p. Settling (G.suffices p) s source in
                    subst W same (settling_in laws y s source (stage ∙ sym (ap (λ j. after_calls (G.admitted r) m (take j cs)) last) ∙ q)))
              ];
        }

    -- after all calls
    right : (x : Sheet R G) → RightIn (G.suffices (rules_in x)) x
    right (IsDrawn d) = tt
    right (IsSettled t) = holds_right laws t

    kept : (x : Sheet R G) → KeepsPromise (G.suffices (rules_in x)) x
    kept (IsDrawn d) = tt
    kept (IsSettled t) = λ inside. promise_from (laws t.drawn.rules) (standing t) (sheet_is t.drawn) t.source inside t.found (holds_right laws t)

    whenever : (r : R) (x : Sheet R G) (cs : List Call) (xs : List Answer) → SoFar r (drawn new_sheet) x cs (length cs) xs
        → EachTold (G.admitted r) (G.suffices r) (drawn new_sheet) cs xs → WheneverSettled (G.admitted r) (G.suffices r) cs xs
    whenever r x cs xs so told i l s source q inside =
        let one = so.settlings i l s source q in
        let P : Stage → Type 0 = λ n. EachTold (G.admitted r) (G.suffices r) n (drop i cs) (drop i xs) in (
          read_held s one.found,
          knot_held s one.found,
          promise_from (laws r) s one.sheet source inside one.found one.right,
          answered (G.admitted r) (G.suffices r) s source one.found one.right (drop i cs) (drop i xs) (subst P q (told-drop (G.admitted r) (G.suffices r) (drawn new_sheet) i cs xs told)),
        )

    all_done : (r : R) (x : Sheet R G) (cs : List Call) (xs : List Answer) → SoFar r (drawn new_sheet) x cs (length cs) xs
        → Replays (G.admitted r) (G.suffices r) r cs xs x
    all_done r x cs xs so =
        let whole = take_all (length cs) cs (omega arith) in
        let P : List Call → Type 0 = λ l. EachTold (G.admitted r) (G.suffices r) (drawn new_sheet) l xs in
        let told = subst P whole so.told in
        let Q : R → Type 0 = λ p. RightIn (G.suffices p) x in
        let U : R → Type 0 = λ p. KeepsPromise (G.suffices p) x in
        record {
          told = told;
          promised = whenever r x cs xs so told;
          stage = so.stage ∙ ap (after_calls (G.admitted r) (drawn new_sheet)) whole;
          keeps = so.rules;
          right = subst Q so.rules (right x);
          last_promised = subst U so.rules (kept x);
        }

    pub so_far_all : (r : R) (d : Drawn R G) (x : Sheet R G) (cs : List Call) (k : ℕ) (xs : List Answer)
        → k ≡ length cs → (sheet_of d ≡ new_sheet) × (d.rules ≡ r) → SoFar d.rules (drawn (sheet_of d)) x cs k xs
        → Replays (G.admitted r) (G.suffices r) r cs xs x
    so_far_all r d x cs k xs end new so =
        let K : ℕ → Type 0 = λ j. SoFar d.rules (drawn (sheet_of d)) x cs j xs in
        let S : PlainSheet → Type 0 = λ p. SoFar d.rules (drawn p) x cs (length cs) xs in
        let T : R → Type 0 = λ q. SoFar q (drawn new_sheet) x cs (length cs) xs in
        all_done r x cs xs (subst T new.1 (subst S new.0 (subst K end so)))
