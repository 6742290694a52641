use Rattle.std.proofs.Common.{◌≡◌, rules}
use Rattle.text.specs.Checks.{text_fault}
use Rattle.text.proofs.Clean.{clean_exactly}
use Rattle.text.proofs.checks.check_bytes.Goals as goal

pub returns-clause-exactly : goal.returns-clause-exactly
returns-clause-exactly c =
    let is : c.check_lines.result ≡ text_fault c.args.text.now = search rules in
    rw is (clean_exactly c.args.text.now)
