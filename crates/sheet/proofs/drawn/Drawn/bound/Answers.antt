use Rattle.std.proofs.Common.{◌≡◌, ◌<◌, true, ◌⊎◌, None, map, length, sym, refl, subst, arith}
use Rattle.std.proofs.lemmas.List.{length-map}
use Rattle.std.proofs.lemmas.Result.{err_from_is_err_and}
use Rattle.timing.specs.Bounds.{term_of}
use Rattle.timing.specs.Model.{BoundModel}
use Rattle.sheet.specs.Plain.{terms_fault}
use Rattle.sheet.specs.Sound.{Aimed, Termed, plain_of}
use Rattle.sheet.specs.declared.fault.CallFault.TheVariants.{NotAdmitted}
use Rattle.sheet.proofs.Keeping.{bounded_aimed, bounded_termed}
use Rattle.sheet.proofs.Outcomes.{event_count, bound_count, fault_is, unsized, asked_of, fault_of, not-admitted, no_such_to, term_refused, full_of_bounds, bound_added_lem, bounded_is}
use Rattle.sheet.proofs.drawn.Drawn.bound.Goals.{After-len-events, In_ok-check_terms}
use Rattle.sheet.proofs.drawn.Drawn.bound.Goals as goal

pub returns-in_err-own : goal.returns-in_err-own
returns-in_err-own g c =
    let p = err_from_is_err_and c.from_residual.result c.from_residual.ensures.1 in
    let fault : c.in_err-own.field-0.0 ≡ NotAdmitted = fault_is _ _ _ c.in_err-own.ensures.value in
    let out : (length (map term_of c.args.terms.now) ≡ 0) ⊎ (8 < length (map term_of c.args.terms.now)) =
    simp length-map (rw c.in_err-own.ensures.ok_part at c.new.ensures) in
    rw (p.1, p.2, fault) (record { gives = not-admitted _ _ _ (unsized _ _ (g.met.R.RuleSet.lawful c.args.self.now.rules) _ _ _ out); keeps = refl })

pub returns-then-not-admits : goal.returns-then-not-admits
returns-then-not-admits g c =
    let own_is = rw c.in_ok-own.ensures.ok_part at c.new.ensures in
    record { gives = not-admitted _ _ _ (asked_of (g.R.RuleSet.admitted c.args.self.now.rules) c.in_ok-own.own _ _ own_is c.if-not-admits.ensures); keeps = refl }

-- past its check, the rule set admits the bound as it was asked for
admitted : (g : _) (c : After-len-events g) → g.R.RuleSet.admitted c.args.self.now.rules c.args.kind c.args.k (length (map term_of c.args.terms.now)) ≡ true
admitted g c =
    let own_is = rw c.in_ok-own.ensures.ok_part at c.new.ensures in
    asked_of (g.R.RuleSet.admitted c.args.self.now.rules) c.in_ok-own.own _ _ own_is c.if-not-admits.ensures

-- and past theirs, no term has a fault
faultless : (g : _) (c : In_ok-check_terms g) → None ≡ terms_fault (length (plain_of c.args.self.now.names c.args.self.now.bounds).names) (map term_of c.args.terms.now)
faultless g c = fault_of c.args.self.now.names c.args.self.now.bounds c.len-events.result _ _ c.len-events.ensures c.in_ok-check_terms.ensures

pub returns-then-to-events : goal.returns-then-to-events
returns-then-to-events g c =
    let yes = admitted g (goal.at.returns-then-to-events g c).After-len-events in
    let events = event_count c.args.self.now.names c.args.self.now.bounds in
    record { gives = no_such_to _ _ _ yes (omega arith); keeps = refl }

pub returns-in_err-check_terms : goal.returns-in_err-check_terms
returns-in_err-check_terms g c =
    let p = err_from_is_err_and c.from_residual-in_err-check_terms.result c.from_residual-in_err-check_terms.ensures.1 in
    let yes = admitted g (goal.at.returns-in_err-check_terms g c).After-len-events in
    let events = event_count c.args.self.now.names c.args.self.now.bounds in
    let first = fault_of c.args.self.now.names c.args.self.now.bounds c.len-events.result _ _ c.len-events.ensures c.in_err-check_terms.ensures in
    rw (p.1, p.2) (record { gives = term_refused _ _ _ _ yes (omega arith) first; keeps = refl })

pub returns-then-number-ge-MAX_BOUNDS : goal.returns-then-number-ge-MAX_BOUNDS
returns-then-number-ge-MAX_BOUNDS g c =
    let yes = admitted g (goal.at.returns-then-number-ge-MAX_BOUNDS g c).After-len-events in
    let events = event_count c.args.self.now.names c.args.self.now.bounds in
    let bounds = bound_count c.args.self.now.names c.args.self.now.bounds in
    let none = faultless g (goal.at.returns-then-number-ge-MAX_BOUNDS g c).In_ok-check_terms in
    record { gives = full_of_bounds _ _ _ yes (omega arith) none (omega arith); keeps = refl }

pub invariant_of-self : goal.invariant_of-self
invariant_of-self g c =
    let s = c.args.self.now in
    let p = plain_of s.names s.bounds in
    let own_is = rw c.in_ok-own.ensures.ok_part at c.new.ensures in
    let events = event_count s.names s.bounds in
    let b : BoundModel = record { to = c.args.to; kind = c.args.kind; k = c.args.k; terms = map term_of c.args.terms.now } in
    let is = bounded_is s.names s.bounds c.push_reserved.new.self c.in_ok-own.own b c.push_reserved.ensures.items own_is in
    let none = faultless g (goal.at.invariant_of-self g c).In_ok-check_terms in
    let aimed = subst Aimed (sym is) (bounded_aimed p b (omega arith) s.aimed) in
    let termed = subst Termed (sym is) (bounded_termed p b none s.termed) in
    record { few = s.few; room = s.room; most = omega arith; space = omega arith; apart = s.apart; aimed = aimed; termed = termed }

pub returns : goal.returns
returns g c =
    let s = c.args.self.now in
    let p = plain_of s.names s.bounds in
    let own_is = rw c.in_ok-own.ensures.ok_part at c.new.ensures in
    let events = event_count s.names s.bounds in
    let bounds = bound_count s.names s.bounds in
    let b : BoundModel = record { to = c.args.to; kind = c.args.kind; k = c.args.k; terms = map term_of c.args.terms.now } in
    let is = bounded_is s.names s.bounds c.push_reserved.new.self c.in_ok-own.own b c.push_reserved.ensures.items own_is in
    let none = faultless g (goal.at.returns g c).In_ok-check_terms in
    let yes = admitted g (goal.at.returns g c).After-len-events in
    record { gives = bound_added_lem (g.R.RuleSet.admitted s.rules) p b _ _ yes (omega arith) none (omega arith) (omega arith) is; keeps = refl }
