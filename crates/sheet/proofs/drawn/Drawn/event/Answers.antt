use Rattle.std.proofs.Common.{◌≡◌, false, is_some, sym, refl, subst, arith}
use Rattle.std.proofs.lemmas.Result.{err_from_is_err_and}
use Rattle.sheet.specs.Plain.{PlainSheet, number_in}
use Rattle.sheet.specs.Sound.{Distinct, Aimed, Termed, plain_of}
use Rattle.sheet.specs.declared.fault.CallFault.TheVariants.{MalformedName}
use Rattle.sheet.proofs.Keeping.{named_apart, named_aimed, named_termed}
use Rattle.sheet.proofs.Outcomes.{event_count, fault_is, formed, malformed, taken, full_of_events, event_added_lem, named_is}
use Rattle.sheet.proofs.drawn.Drawn.event.Goals as goal

pub returns-in_err-own : goal.returns-in_err-own
returns-in_err-own g c =
    let p = err_from_is_err_and c.from_residual.result c.from_residual.ensures.1 in
    let no_name = rw c.in_err-own.ensures.ok_part at c.new.ensures in
    let fault : c.in_err-own.field-0.0 ≡ MalformedName = fault_is _ _ _ c.in_err-own.ensures.value in
    rw (p.1, p.2, fault) (record { gives = malformed _ _ no_name; keeps = refl })

pub returns-then-is_some : goal.returns-then-is_some
returns-then-is_some g c =
    let spelled_so = rw c.in_ok-own.ensures.ok_part at c.new.ensures in
    record { gives = taken _ _ (formed c.in_ok-own.own _ spelled_so) (cc); keeps = refl }

pub returns-then-number-ge-MAX_EVENTS : goal.returns-then-number-ge-MAX_EVENTS
returns-then-number-ge-MAX_EVENTS g c =
    let spelled_so = rw c.in_ok-own.ensures.ok_part at c.new.ensures in
    let count = event_count c.args.self.now.names c.args.self.now.bounds in
    record { gives = full_of_events _ _ (formed c.in_ok-own.own _ spelled_so) (cc) (omega arith); keeps = refl }

pub invariant_of-self : goal.invariant_of-self
invariant_of-self g c =
    let s = c.args.self.now in
    let n = c.args.name.now in
    let p = plain_of s.names s.bounds in
    let spelled_so = rw c.in_ok-own.ensures.ok_part at c.new.ensures in
    let free : is_some (number_in p.names n) ≡ false = cc in
    let is = named_is s.names c.push_reserved.new.self s.bounds c.in_ok-own.own n c.push_reserved.ensures.items spelled_so in
    let apart = subst (λ (q : PlainSheet). Distinct q.names) (sym is) (named_apart p n free s.apart) in
    let aimed = subst Aimed (sym is) (named_aimed p n s.aimed) in
    let termed = subst Termed (sym is) (named_termed p n s.termed) in
    record { few = omega arith; room = omega arith; most = s.most; space = s.space; apart = apart; aimed = aimed; termed = termed }

pub returns : goal.returns
returns g c =
    let s = c.args.self.now in
    let n = c.args.name.now in
    let p = plain_of s.names s.bounds in
    let spelled_so = rw c.in_ok-own.ensures.ok_part at c.new.ensures in
    let is = named_is s.names c.push_reserved.new.self s.bounds c.in_ok-own.own n c.push_reserved.ensures.items spelled_so in
    let count = event_count s.names s.bounds in
    record { gives = event_added_lem p n _ _ (formed c.in_ok-own.own _ spelled_so) (cc) (omega arith) (omega arith) is; keeps = refl }
