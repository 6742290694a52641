use lib.Count.{ones}
use Rattle.timing.specs.Worked.{worked}
use Rattle.timing.proofs.WorkedSheets.{certificates, all_shown}
use Rattle.timing.proofs.worked.worked_answers.Goals as goal

pub returns : goal.returns
unfolding ones
returns c = all_shown worked _ certificates tt
