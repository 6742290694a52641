-- What a task of the program asks.
use Rattle.rules.specs.declared.RuleSet.{Ghosts}
use Rattle.timing.specs.Rise as Defined
use Rattle.solver.specs.declared.task.Task.{Task}
use Rattle.solver.specs.Tasks.{task_of}

-- to settle its chosen bounds, by the meaning of its rules
abbrev pub asked : {R : Type 0} {G : Ghosts R} → Task R G → Defined.Task
asked {G = G} k = task_of (G.suffices k.sheet.now.rules.now) k.chosen.now k.sheet.now.bounds.now k.sheet.now.events k.source
