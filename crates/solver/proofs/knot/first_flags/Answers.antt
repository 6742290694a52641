use Rattle.solver.proofs.Flags.{first_of}
use Rattle.solver.proofs.knot.first_flags.Goals as goal

pub returns : goal.returns
returns c = first_of c.args.count _ c.requires (c.fill.ensures.after (λ y is. is))
