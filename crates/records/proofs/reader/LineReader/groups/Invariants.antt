use Rattle.std.proofs.Common.{◌≡◌, [], length}
use Rattle.records.specs.Entries.{groups_from}
use Rattle.records.specs.Readers.{names_for, fields_in}
use Rattle.records.proofs.Groups.{Left}
use Rattle.records.proofs.reader.LineReader.groups.Given as goal

-- what all groups give is what the groups left give after those so far
abbrev pub invariant-loop-i : goal.invariant-loop-i
invariant-loop-i g l =
    let at = g.G.Group.said_at (names_for l.self) l.self.line.number (fields_in l.self) in
    (groups_from at g.G.Group.WIDTH l.count l.first [] ≡ Left at g.G.Group.WIDTH l.count l.first l.i l.said.items)
    × (length l.said.items ≡ l.i)
