-- The needs of a text that loads are between events of its sheet.
use Rattle.std.proofs.Common.{◌≡◌, ℕ, ◌+◌, ◌-◌, ltb, List, [], ◌∷◌, ◌++◌, length, take, replicate, Ok, Err, Result, IfOk, sym, refl, ap, ◌∙◌, subst, arith, length-append}
use Rattle.std.specs.List.{AllByRecursion}
use Rattle.std.proofs.ByRecursion.{All-weaker, All-push}
use Rattle.std.proofs.lemmas.List.{take_at}
use Rattle.std.proofs.lemmas.Result.{IfOk-at_ok}
use Rattle.rules.specs.Laws.{Admits}
use Rattle.text.specs.Checks.{whole_text}
use Rattle.text.specs.Split.{lines_of}
use Rattle.sheet.specs.Plain.{PlainSheet}
use Rattle.records_fault.specs.declared.fault.RecordFault.TheVariants.{Text}
use Rattle.records_fault.specs.declared.fault.LoadFault.{LoadFault}
use Rattle.records_fault.specs.declared.fault.LoadFault.TheVariants.{Record}
use Rattle.records.specs.declared.entry.Need.{Need}
use Rattle.records.specs.Entries.{Said, an_event, some_bounds, a_need, line_says}
use Rattle.records.specs.Fields.{carried}
use Rattle.records.specs.Loads.{State, start, blank, event_added, bounds_added, added, line_adds, lines_add, loaded, answer_of, sheet_after, slots_after}
use Rattle.records.specs.Reads.{Fitting}
use Rattle.records.proofs.After.{after, after_any, after_map, either}
use Rattle.records.proofs.Calls.{bounds_keep_names}
use Rattle.records.proofs.Fits.{line_fits}
use Rattle.report.specs.Known.{Known}
use Rattle.report.specs.Lines.{fault_line}
use Rattle.report.specs.Report.{ReportsLoaded}

abbrev pub AllKnown : State → Type 0
AllKnown s = AllByRecursion (Known (length s.sheet.names)) s.needs

-- one event more
grown : (names : List (List ℕ)) (name : List ℕ) (need : Need) → Known (length names) need → Known (length (names ++ (name ∷ []))) need
grown names name need h = let long = length-append names (name ∷ []) in (omega arith, omega arith)

module _ (A : Admits) (slots : ℕ) where
  added_known : (n : ℕ) (s : State) (said : Said) → Fitting s.sheet.names said → AllKnown s → IfOk (added A slots n s said) AllKnown
  added_known n s (an_event name) f g =
      after_map AllKnown (λ t. record { sheet = t; needs = s.needs }) (event_added n s.sheet name)
      (either (λ t. t.names ≡ s.sheet.names ++ (name ∷ [])) (ltb (length s.sheet.names) 64) _ _ refl tt)
      (λ t e.
      All-weaker (Known (length s.sheet.names)) (Known (length t.names))
      (λ need h. subst (λ (ns : List (List ℕ)). Known (length ns) need) (sym e) (grown s.sheet.names name need h)) s.needs g)
  added_known n s (some_bounds bounds) f g =
      after_map AllKnown (λ t. record { sheet = t; needs = s.needs }) (bounds_added A n s.sheet bounds) (bounds_keep_names A n s.sheet bounds)
      (λ t e. subst (λ (ns : List (List ℕ)). AllByRecursion (Known (length ns)) s.needs) (sym e) g)
  added_known n s (a_need need) f g = either AllKnown (ltb (length s.needs) slots) _ _ (All-push (Known (length s.sheet.names)) s.needs need g f) tt

  lines_known : (ls : List (List ℕ)) (n : ℕ) (s : State) → AllKnown s → IfOk (lines_add A slots n s ls) AllKnown
  lines_known [] n s g = g
  lines_known (l ∷ ls) n s g =
      after AllKnown (line_adds A slots n s l) _
      (after AllKnown (line_says s.sheet.names n l) _ (line_fits s.sheet.names n l) (λ said f. added_known n s said f g))
      (λ t h. lines_known ls (n + 1) t h)

  loaded_known : (text : List ℕ) (state : State) → loaded A slots text ≡ Ok state → AllKnown state
  loaded_known text state e =
      IfOk-at_ok AllKnown e (after_any AllKnown (carried (λ f. Record (Text f)) (whole_text text)) _ (λ _. lines_known (lines_of text) 1 start tt))

-- what then stands in sheet and slots
pub record Loads (result : Result State LoadFault) (sheet : PlainSheet) (needs : List Need) : Type 0 where
  pub state : State
  pub was : result ≡ Ok state
  pub sheet_is : sheet ≡ state.sheet
  pub needs_are : needs ≡ state.needs

pub loads : (result : Result State LoadFault) (count slots : ℕ) (sheet : PlainSheet) (all : List Need) → Ok count ≡ answer_of result → sheet ≡ sheet_after result
    → all ≡ slots_after slots result → Loads result sheet (take count all)
loads (Ok state) count slots sheet all a s w =
    let many : count ≡ length state.needs = cc in
    record {
      state = state;
      was = refl;
      sheet_is = s;
      needs_are = ap (take count) w ∙ take_at state.needs (replicate (slots - length state.needs) blank) count (sym many);
    }
loads (Err fault) count slots sheet all a s w = absurd (grind arith)

-- a fault is what is printed
pub fault_reported : (result : Result State LoadFault) (fault : LoadFault) (out : List ℕ) → Err fault ≡ answer_of result → out ≡ fault_line fault → ReportsLoaded result out
fault_reported (Ok state) fault out a is = absurd (grind arith)
fault_reported (Err other) fault out a is = let same : fault ≡ other = cc in is ∙ ap fault_line same

pub needs_known : (A : Admits) (slots : ℕ) (text : List ℕ) (sheet : PlainSheet) (needs : List Need) → Loads (loaded A slots text) sheet needs
    → AllByRecursion (Known (length sheet.names)) needs
needs_known A slots text sheet needs l =
    subst (λ (s : PlainSheet). AllByRecursion (Known (length s.names)) needs) (sym l.sheet_is)
    (subst (AllByRecursion (Known (length l.state.sheet.names))) (sym l.needs_are) (loaded_known A slots text l.state l.was))
