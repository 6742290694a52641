use Rattle.std.proofs.Common.{refl, subst, sym, arith}
use Rattle.sheet.specs.Sound.{Aimed, Termed, plain_of}
use Rattle.sheet.proofs.Keeping.{struck_aimed, struck_termed}
use Rattle.sheet.proofs.Outcomes.{bound_count, no_such_bound, bound_struck, struck_is}
use Rattle.sheet.proofs.drawn.Drawn.strike.Goals as goal

pub returns-then-number-len : goal.returns-then-number-len
returns-then-number-len g c =
    let count = bound_count c.args.self.now.names c.args.self.now.bounds in
    record { gives = no_such_bound _ _ (omega arith); keeps = refl }

pub invariant_of-self : goal.invariant_of-self
invariant_of-self g c =
    let s = c.args.self.now in
    let i = c.args.number in
    let p = plain_of s.names s.bounds in
    let is = struck_is s.names s.bounds c.remove.new.self i c.remove.ensures.by_index.2 in
    let aimed = subst Aimed (sym is) (struck_aimed p i s.aimed) in
    let termed = subst Termed (sym is) (struck_termed p i s.termed) in
    record { few = s.few; room = s.room; most = omega arith; space = omega arith; apart = s.apart; aimed = aimed; termed = termed }

pub returns : goal.returns
returns g c =
    let s = c.args.self.now in
    let count = bound_count s.names s.bounds in
    let is = struck_is s.names s.bounds c.remove.new.self c.args.number c.remove.ensures.by_index.2 in
    record { gives = bound_struck (plain_of s.names s.bounds) _ _ _ (omega arith) (omega arith) is; keeps = refl }
