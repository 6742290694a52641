use Rattle.std.proofs.Common.{◌≡◌, List, ℕ, [], Some, slice_get, eqb, Bor, sym, ap, ◌∙◌, rules, tests}
use Rattle.std.specs.Option.{option_map}
use Rattle.std.proofs.lemmas.Option.{slice_get_within, get_or_from_slice_get}
use Rattle.std.proofs.lemmas.Iterator.Consumers.{nth_from_yields_List}
use Rattle.std.proofs.lemmas.Iterator.Splits.{YieldsList-from_slice_split}
use Rattle.text.specs.Split.{fields_of}
use Rattle.text.proofs.Splits.{no_part}
use Rattle.text.proofs.lines.Line.field.Goals as goal

pub returns-in_err-bytes : goal.returns-in_err-bytes
returns-in_err-bytes c =
    let line = c.args.self.bytes.now in
    let got =
    nth_from_yields_List c.nth.result c.nth.new.self c.args.k c.nth.ensures.ran
    (YieldsList-from_slice_split _ (λ b. eqb b 9) line c.split.ensures.rest c.split.ensures.done c.split.ensures.closure (λ x b q k. search (rules, tests))) in
    rw c.from_residual.ensures (no_part (fields_of line) c.args.k (sym got ∙ ap (option_map (λ (x : Bor (List ℕ)). x.now)) c.in_err-bytes.was))

pub returns : goal.returns
returns c =
    let line = c.args.self.bytes.now in
    let got =
    nth_from_yields_List c.nth.result c.nth.new.self c.args.k c.nth.ensures.ran
    (YieldsList-from_slice_split _ (λ b. eqb b 9) line c.split.ensures.rest c.split.ensures.done c.split.ensures.closure (λ x b q k. search (rules, tests))) in
    let at : slice_get (fields_of line) c.args.k ≡ Some c.in_ok-bytes.bytes.now =
    sym got ∙ ap (option_map (λ (x : Bor (List ℕ)). x.now)) c.in_ok-bytes.was in
    (slice_get_within (fields_of line) c.args.k _ at, sym (get_or_from_slice_get (fields_of line) c.args.k _ [] at), search rules)
