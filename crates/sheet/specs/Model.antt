-- The plain sheet that a drawn one stands for, and what a call does to a drawn sheet.
use Rattle.std.specs.Prelude.{◌≡◌, ℕ, Result}
use Rattle.rules.specs.declared.RuleSet.{Ghosts}
use Rattle.sheet.specs.declared.drawn.Drawn.{Drawn}
use Rattle.sheet.specs.Plain.{PlainSheet, Outcome, Gives}
use Rattle.sheet.specs.Sound.{plain_of}

abbrev pub sheet_of : {R : Type 0} {G : Ghosts R} → Drawn R G → PlainSheet
sheet_of d = plain_of d.names d.bounds

-- a call answered r and changed the sheet as is defined, and the rules stayed
pub record Does {R : Type 0} {G : Ghosts R} {E : Type 0} (o : Outcome E) (r : Result ℕ E) (old new : Drawn R G) : Type 0 where
  pub gives : Gives o r (sheet_of new)
  pub keeps : new.rules ≡ old.rules
