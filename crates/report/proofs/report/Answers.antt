use Rattle.std.proofs.Common.{◌≡◌, ℕ, List, ◌++◌, take, vec_items, Result, sym, ap, ◌∙◌, subst}
use Rattle.rules.specs.Sets.{vote_admits}
use Rattle.sheet.specs.Model.{sheet_of}
use Rattle.sheet.specs.Plain.{PlainSheet}
use Rattle.records_fault.specs.declared.fault.LoadFault.{LoadFault}
use Rattle.records.specs.declared.entry.Need.{Need}
use Rattle.records.specs.Loads.{State, loaded}
use Rattle.report.specs.Lines.{fault_line}
use Rattle.report.specs.Report.{Findings, ReportsLoaded}
use Rattle.report.proofs.LoadedNeeds.{loads, needs_known, fault_reported}
use Rattle.report.proofs.report.Goals as goal
use Rattle.report.proofs.report.Goals.{in-Ok+in_ok-put_findings-in-Ok, in-Err+in_ok-put_fault-in-Err}

pub put_findings-requires : goal.put_findings-requires
put_findings-requires c =
    let text = c.args.text.now in
    let told = c.in-Ok.ensures in
    let l = loads (loaded vote_admits 64 text) c.in-Ok.count 64 (sheet_of c.load.new.sheet) c.load.new.slots told.answer told.sheet told.slots in
    record { known = needs_known vote_admits 64 text _ _ l }

pub returns : goal.returns
returns c =
    let text = c.args.text.now in
    elim c.match-load.branch [
      | in-Ok+in_ok-put_findings-in-Ok w ↦
          (let told = w.in-Ok.ensures in
          let l = loads (loaded vote_admits 64 text) w.in-Ok.count 64 (sheet_of c.load.new.sheet) c.load.new.slots told.answer told.sheet told.slots in
          let out = vec_items c.match-load.out in
          let put = w.in_ok-put_findings-in-Ok.ensures in
          let all : out ≡ put.0 = ap vec_items w.out-is ∙ put.2 ∙ ap (λ (before : List ℕ). before ++ put.0) c.new-out.ensures.items in
          let found = subst (Findings (sheet_of c.load.new.sheet) (take w.in-Ok.count c.load.new.slots)) (sym all) put.1 in
          let same = subst (λ (s : PlainSheet). Findings s (take w.in-Ok.count c.load.new.slots) out) l.sheet_is found in
          let needs = subst (λ (ns : List Need). Findings l.state.sheet ns out) l.needs_are same in
          subst (λ (r : Result State LoadFault). ReportsLoaded r out) (sym l.was) needs)
      | in-Err+in_ok-put_fault-in-Err w ↦
          fault_reported (loaded vote_admits 64 text) w.in-Err.fault (vec_items c.match-load.out) w.in-Err.ensures.answer
          (ap vec_items w.out-is ∙ w.in_ok-put_fault-in-Err.ensures ∙ ap (λ (before : List ℕ). before ++ fault_line w.in-Err.fault) c.new-out.ensures.items)
    ]
