use Rattle.std.proofs.Common.{◌≡◌, ℕ, List, map, Bor, ap, ◌∙◌, subst, arith}
use Rattle.std.specs.List.{AllByRecursion}
use Rattle.text.specs.Spelled.{spelled}
use Rattle.text.specs.declared.name.Name.{Name}
use Rattle.sheet.specs.Model.{sheet_of}
use Rattle.records_write.specs.Shown.{shown, names_of}
use Rattle.records_write.specs.Writes.{written, wrote_answer, wrote_bytes, ByteSized}
use Rattle.records_write.proofs.RoundTrip.{round_trip, written_long}
use Rattle.records_write.proofs.Admitted.{made_admitted}
use Rattle.records_write.proofs.Puts.{made_of, sheet_put}
use Rattle.records_write.proofs.write.write.Goals as goal

pub returns : goal.returns
returns g c =
    let s = sheet_of c.args.sheet.now in
    let rules = g.R.RuleSet.admitted c.args.sheet.now.rules in
    let made = made_of c.args.sheet.now (subst (AllByRecursion ByteSized) c.bounds.ensures c.put_bounds.ensures.bytes) in
    let names : names_of c.new-page.result ≡ s.names = ap (λ (names : Bor (List Name)). map spelled names.now) c.new-page.ensures.names ∙ c.names.ensures in
    let text : shown c.put_bounds.new.self ≡ written (sheet_of c.args.sheet.now) =
    sheet_put s c.new-page.ensures.text names c.put_events.ensures (rw c.bounds.ensures at c.put_bounds.ensures.puts) (omega (arith, written_long s made)) in
    record {
      answer = c.copy_out.ensures.answer ∙ ap (λ (t : List ℕ). wrote_answer t c.args.out.now) text;
      bytes = c.copy_out.ensures.bytes ∙ ap (λ (t : List ℕ). wrote_bytes t c.args.out.now) text;
      short = omega (arith, written_long s made);
      back = λ admit slots. round_trip rules slots s made admit;
      made = λ steps e slots. round_trip rules slots s made (made_admitted rules s steps e);
    }
