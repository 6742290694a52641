use Rattle.records.specs.Reads.{said_by}
use Rattle.records.specs.Loadings.{names_in}
use Rattle.records.proofs.Fits.{said_fits}
use Rattle.records.proofs.load.Loading.add_line.Goals as goal

pub add-requires : goal.add-requires
add-requires g c =
    said_fits (names_in c.args.self.now) c.args.line.number c.args.line.bytes.now (said_by c.in_ok-entry.entry) c.in_ok-entry.ensures
