use Rattle.std.proofs.Common.{◌<◌, length, rules}
use Rattle.text.proofs.Splits.{ended_some}
use Rattle.text.proofs.reader.Reader.next_line.Goals as goal

pub returns : goal.returns
returns c =
    let xs = c.args.self.now.rest.now in
    let some : 0 < length xs = search rules in
    (search (rules, ended_some), search rules, search rules)
