use Rattle.std.proofs.Common.{rules}
use Rattle.std.proofs.lemmas.List.{take_all}
use Rattle.std.proofs.lemmas.List.Splits.{length-slice_split}
use Rattle.text.proofs.lines.count_parts.Goals as goal

pub returns : goal.returns
returns c = search (rules, take_all, length-slice_split)
