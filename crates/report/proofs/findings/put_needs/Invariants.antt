use Rattle.std.proofs.Common.{◌≡◌, take, vec_items}
use Rattle.sheet.specs.Model.{sheet_of}
use Rattle.report.specs.Report.{Puts, NeedsPrinted}
use Rattle.report.proofs.findings.put_needs.Given as goal

abbrev pub invariant-loop-need : goal.invariant-loop-need
invariant-loop-need l =
    (sheet_of l.drawn ≡ sheet_of l.initial.drawn)
    × Puts (NeedsPrinted (sheet_of l.initial.drawn) (take l.need-index l.needs)) (vec_items l.initial.out) (vec_items l.out)
