use Rattle.std.proofs.Common.{sym, ◌∙◌, arith}
use Rattle.sheet.specs.Model.{sheet_of}
use Rattle.sheet.proofs.Standing.{few_events}
use Rattle.embed.proofs.Questions.{number_below}
use Rattle.embed.proofs.asking.number_in_text.Goals as goal

pub overflow_cast-result : goal.overflow_cast-result
overflow_cast-result g c =
    let below = number_below (sheet_of c.in_ok-sheet.sheet).names c.args.name.now c.in_ok-number.number
    (sym c.in_ok-number.ensures.ok_part ∙ c.number_of.ensures) in
    omega (arith, below, few_events c.in_ok-sheet.sheet)
