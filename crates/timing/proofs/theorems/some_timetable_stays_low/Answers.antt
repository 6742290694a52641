use Rattle.std.proofs.Common.{lit≤}
use Rattle.timing.proofs.Statements.{some_timetable_stays_low}
use Rattle.timing.proofs.theorems.some_timetable_stays_low.Goals as goal

pub returns : goal.returns
returns c = some_timetable_stays_low _ (lit≤ tt)
