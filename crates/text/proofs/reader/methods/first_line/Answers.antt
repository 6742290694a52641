use Rattle.std.proofs.Common.{ℕ, ◌+◌, eqb, take, drop, sym, ap, ◌∙◌, take_all, arith, rules, tests}
use Rattle.std.proofs.lemmas.List.{drop_all, take_rest}
use Rattle.std.proofs.lemmas.Iterator.{YieldsList-from_slice}
use Rattle.std.proofs.lemmas.Iterator.Search.{position_from_yields_List}
use Rattle.text.proofs.Splits.{first_at, first_none}
use Rattle.text.proofs.reader.methods.first_line.Goals as goal

pub returns-in-Some : goal.returns-in-Some
returns-in-Some c =
    let xs = c.args.text.now in
    let n = c.in-Some.n in
    let found = position_from_yields_List (λ b. eqb b 10) _ _ c.position.result c.position.ensures.ran (YieldsList-from_slice xs (cc)) (λ x b q k. search (rules, tests)) in
    let at = first_at 10 xs n (sym found ∙ c.in-Some.is) in
    record { line = ap (λ (k : ℕ). take k xs) (sym at); rest = take_rest xs (n + 1) ∙ ap (λ (k : ℕ). drop (k + 1) xs) (sym at) }

pub returns-in-None : goal.returns-in-None
returns-in-None c =
    let xs = c.args.text.now in
    let found = position_from_yields_List (λ b. eqb b 10) _ _ c.position.result c.position.ensures.ran (YieldsList-from_slice xs (cc)) (λ x b q k. search (rules, tests)) in
    let none = first_none 10 xs (sym found ∙ c.in-None.is) in
    record { line = sym (take_all _ xs none); rest = sym (drop_all _ xs (omega arith)) }
