-- The faults of a bound's terms: what it means that there is none.
use Rattle.std.proofs.Common.{◌≡◌, ℕ, ◌≤◌, Bool, true, false, cond, not, T, ltb, List, [], ◌∷◌, pos, neg_ℤ, is_some, Some, Option, sym, refl, subst, arith}
use lib.Signed.{le_z, le_z_yes}
use Rattle.std.specs.List.{AllByRecursion}
use Rattle.std.proofs.lemmas.Bool.{lt-ltb, ltb-true, and_parts, true≢false}
use Rattle.timing.specs.Limits.{delay_limit}
use Rattle.timing.specs.Model.{TermModel, TermWithin}
use Rattle.sheet.specs.declared.fault.CallFault.{CallFault}
use Rattle.sheet.specs.declared.fault.CallFault.TheVariants.{NoSuchEvent, DelayOutOfRange}
use Rattle.sheet.specs.Plain.{is_delay, terms_fault}

-- no fault: the first term is within, and the rest has none
parts : (x y : Bool) (o : Option CallFault) → is_some (cond (not x) (Some NoSuchEvent) (cond (not y) (Some DelayOutOfRange) o)) ≡ false
    → (x ≡ true) × (y ≡ true) × (is_some o ≡ false)
parts true true o e = (refl, refl, e)
parts true false o e = absurd (true≢false e)
parts false true o e = absurd (true≢false e)
parts false false o e = absurd (true≢false e)

-- with more events there is still none
pub more-events : (n m : ℕ) → n ≤ m → (ts : List TermModel) → is_some (terms_fault n ts) ≡ false → is_some (terms_fault m ts) ≡ false
more-events n m le [] e = refl
more-events n m le (t ∷ ts) e =
    let p = parts (ltb t.from n) (is_delay t.delay) (terms_fault n ts) e in
    rw (lt-ltb t.from m (omega (arith, ltb-true t.from n p.0)), p.1) (more-events n m le ts p.2)

-- without a fault every term is within
pub terms_within : (n : ℕ) (ts : List TermModel) → is_some (terms_fault n ts) ≡ false → AllByRecursion (TermWithin n delay_limit) ts
terms_within n [] e = tt
terms_within n (t ∷ ts) e =
    let p = parts (ltb t.from n) (is_delay t.delay) (terms_fault n ts) e in
    let d = and_parts (le_z (neg_ℤ (pos delay_limit)) t.delay) (le_z t.delay (pos delay_limit)) p.1 in
    ((ltb-true t.from n p.0, le_z_yes (subst T (sym d.0) tt), le_z_yes (subst T (sym d.1) tt)), terms_within n ts p.2)
