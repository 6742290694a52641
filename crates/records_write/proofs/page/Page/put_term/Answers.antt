use Rattle.std.proofs.Common.{◌≡◌, ◌∷◌, get_or, [], append-nil, ◌∙◌, w64, SFits, rules}
use Rattle.std.specs.Fmt.{signed_decimal}
use Rattle.std.proofs.lemmas.Int.{to_z-of_z}
use Rattle.text.specs.Spelled.{digits_of}
use Rattle.records_write.specs.Shown.{names_of}
use Rattle.records_write.proofs.Puts.{puts_then, puts_same, puts_field}
use Rattle.records_write.proofs.page.Page.put_term.Goals as goal

pub returns : goal.returns
returns c =
    let delay = c.args.term.now.delay in
    let name = get_or (names_of c.args.self.now) c.args.term.now.from [] in
    let f : SFits w64 c.args.term.now.delay = search rules in
    let digits : digits_of c.signed.result ≡ signed_decimal c.args.term.now.delay = simp (to_z-of_z w64 c.args.term.now.delay f) at c.signed.ensures.written in
    puts_same (simp append-nil)
    (puts_then (9 ∷ name) (9 ∷ signed_decimal delay) c.put_name.ensures (puts_field (c.as_bytes.ensures ∙ digits) c.put_field.ensures))
