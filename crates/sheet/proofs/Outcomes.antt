-- Each call's way out, against its definition: one lemma for each check that can refuse, and one for the change made.
use Rattle.std.proofs.Common.{◌≡◌, ℕ, ◌+◌, ◌-◌, ◌<◌, ◌≤◌, Bool, true, false, ◌⊎◌, List, [], ◌∷◌, ◌++◌, map, length, take, drop, is_some, Some, None, Ok, Err, vec_items, vec_len, Option, Vec, sym, refl, ap, ◌∙◌, arith}
use Rattle.std.specs.Option.{ok_or}
use Rattle.std.specs.declared.alloc.Global.{Global}
use Rattle.std.proofs.lemmas.List.{length-map, map-append, map_push, take-map, drop-map}
use Rattle.std.proofs.lemmas.Bool.{lt-ltb, le-ltb}
use Rattle.rules.specs.Laws.{Admits, Enough, Laws}
use Rattle.text.specs.Names.{is_name}
use Rattle.text.specs.Spelled.{spelled}
use Rattle.text.specs.declared.name.Name.{Name}
use Rattle.timing.specs.Bounds.{bound_of}
use Rattle.timing.specs.Model.{TermModel, BoundModel}
use Rattle.timing.specs.declared.bound.Bound.{Bound}
use Rattle.sheet.specs.declared.fault.CallFault.{CallFault}
use Rattle.sheet.specs.declared.fault.CallFault.TheVariants.{MalformedName, NameTaken, NoSuchEvent, TooManyEvents, TooManyBounds, NotAdmitted}
use Rattle.sheet.specs.declared.fault.Refusal.TheVariants.{NoSuchBound}
use Rattle.sheet.specs.Plain.{PlainSheet, Gives, number_in, refused, named, event_call, terms_fault, bounded, bound_call, struck, strike_call}
use Rattle.sheet.specs.Sound.{plain_of}

-- the fault that is answered where there is no value
pub fault_is : {X : Type 0} (o : Option X) (e f : CallFault) → Err f ≡ ok_or o e → f ≡ e
fault_is None e f h = cc
fault_is (Some x) e f h = cc

-- event
pub formed : (x : Name) (n : List ℕ) → spelled x ≡ n → is_name n ≡ true
formed x n e = ap is_name (sym e) ∙ x.named

module _ (s : PlainSheet) (n : List ℕ) where
  pub malformed : is_name n ≡ false → Gives (event_call s n) (Err MalformedName) s
  unfolding event_call refused
  malformed e = rw e (record { answer = refl; sheet = refl })

  pub taken : is_name n ≡ true → is_some (number_in s.names n) ≡ true → Gives (event_call s n) (Err NameTaken) s
  unfolding event_call refused
  taken e t = rw (e, t) (record { answer = refl; sheet = refl })

  pub full_of_events : is_name n ≡ true → is_some (number_in s.names n) ≡ false → 64 ≤ length s.names → Gives (event_call s n) (Err TooManyEvents) s
  unfolding event_call refused
  full_of_events e t h = rw (e, t, le-ltb (length s.names) 64 h) (record { answer = refl; sheet = refl })

  pub event_added_lem : (r : ℕ) (after : PlainSheet) → is_name n ≡ true → is_some (number_in s.names n) ≡ false → length s.names < 64
      → length s.names ≡ r → after ≡ (named s n).after → Gives (event_call s n) (Ok r) after
  unfolding event_call named
  event_added_lem r after e t h er ea = rw (e, t, lt-ltb (length s.names) 64 h) (record { answer = ap Ok (sym er); sheet = ea })

-- no rule set admits a bound with no terms or with more than eight
pub unsized : (admits : Admits) (enough : Enough) → Laws admits enough → (kind k n : ℕ) → (n ≡ 0) ⊎ (8 < n) → admits kind k n ≡ false
unsized admits enough laws kind k n out = let sized = laws.sized kind k n in grind arith

-- bound
module _ (admits : Admits) (s : PlainSheet) (b : BoundModel) where
  abbrev admitted : Bool
  admitted = admits b.kind b.k (length b.terms)

  abbrev fault : Option CallFault
  fault = terms_fault (length s.names) b.terms

  pub not-admitted : admitted ≡ false → Gives (bound_call admits s b) (Err NotAdmitted) s
  unfolding bound_call refused
  not-admitted e = rw e (record { answer = refl; sheet = refl })

  pub no_such_to : admitted ≡ true → length s.names ≤ b.to → Gives (bound_call admits s b) (Err NoSuchEvent) s
  unfolding bound_call refused
  no_such_to e h = rw (e, le-ltb b.to (length s.names) h) (record { answer = refl; sheet = refl })

  pub term_refused : (f : CallFault) → admitted ≡ true → b.to < length s.names → Some f ≡ fault → Gives (bound_call admits s b) (Err f) s
  unfolding bound_call refused
  term_refused f e h t = rw (e, lt-ltb b.to (length s.names) h, ← t) (record { answer = refl; sheet = refl })

  pub full_of_bounds : admitted ≡ true → b.to < length s.names → None ≡ fault → 256 ≤ length s.bounds → Gives (bound_call admits s b) (Err TooManyBounds) s
  unfolding bound_call refused
  full_of_bounds e h t m = rw (e, lt-ltb b.to (length s.names) h, ← t, le-ltb (length s.bounds) 256 m) (record { answer = refl; sheet = refl })

  pub bound_added_lem : (r : ℕ) (after : PlainSheet) → admitted ≡ true → b.to < length s.names → None ≡ fault → length s.bounds < 256
      → length s.bounds ≡ r → after ≡ (bounded s b).after → Gives (bound_call admits s b) (Ok r) after
  unfolding bound_call bounded
  bound_added_lem r after e h t m er ea =
      rw (e, lt-ltb b.to (length s.names) h, ← t, lt-ltb (length s.bounds) 256 m) (record { answer = ap Ok (sym er); sheet = ea })

-- strike
module _ (s : PlainSheet) (i : ℕ) where
  pub no_such_bound : length s.bounds ≤ i → Gives (strike_call s i) (Err NoSuchBound) s
  unfolding strike_call refused
  no_such_bound h = rw (le-ltb i (length s.bounds) h) (record { answer = refl; sheet = refl })

  pub bound_struck : (r : ℕ) (after : PlainSheet) → i < length s.bounds → length s.bounds - 1 ≡ r → after ≡ (struck s i).after → Gives (strike_call s i) (Ok r) after
  unfolding strike_call struck
  bound_struck r after h er ea = rw (lt-ltb i (length s.bounds) h) (record { answer = ap Ok (sym er); sheet = ea })

-- what the program holds after a change is the definition's sheet
pub event_count : (ns : Vec Name Global) (bs : Vec Bound Global) → length (plain_of ns bs).names ≡ vec_len ns
event_count ns bs = length-map (vec_items ns) spelled ∙ sym ns.ok.0

pub bound_count : (ns : Vec Name Global) (bs : Vec Bound Global) → length (plain_of ns bs).bounds ≡ vec_len bs
bound_count ns bs = length-map (vec_items bs) bound_of ∙ sym bs.ok.0

-- what the rule set answered of a bound, and what was found in its terms, said of the plain bound and sheet
pub asked_of : (admits : Admits) (x : Bound) (b : BoundModel) (r : Bool) → bound_of x ≡ b → r ≡ admits (bound_of x).kind (bound_of x).k (length (bound_of x).terms)
    → admits b.kind b.k (length b.terms) ≡ r
asked_of admits x b r e a = ap (λ (m : BoundModel). admits m.kind m.k (length m.terms)) (sym e) ∙ sym a

pub fault_of : (ns : Vec Name Global) (bs : Vec Bound Global) (n : ℕ) (ts : List TermModel) (f : Option CallFault) → n ≡ vec_len ns → f ≡ terms_fault n ts
    → f ≡ terms_fault (length (plain_of ns bs).names) ts
fault_of ns bs n ts f e a = a ∙ ap (λ (m : ℕ). terms_fault m ts) (e ∙ sym (event_count ns bs))

pub named_is : (ns ns' : Vec Name Global) (bs : Vec Bound Global) (x : Name) (n : List ℕ) → vec_items ns' ≡ vec_items ns ++ x ∷ [] → spelled x ≡ n
    → plain_of ns' bs ≡ (named (plain_of ns bs) n).after
unfolding named
named_is ns ns' bs x n items e =
    let is : map spelled (vec_items ns') ≡ map spelled (vec_items ns) ++ n ∷ [] =
    ap (map spelled) items ∙ map_push spelled (vec_items ns) x ∙ ap (λ (m : List ℕ). map spelled (vec_items ns) ++ m ∷ []) e in
    ap (λ (l : List (List ℕ)). record { names = l; bounds = map bound_of (vec_items bs) }) is

pub bounded_is : (ns : Vec Name Global) (bs bs' : Vec Bound Global) (x : Bound) (b : BoundModel) → vec_items bs' ≡ vec_items bs ++ x ∷ [] → bound_of x ≡ b
    → plain_of ns bs' ≡ (bounded (plain_of ns bs) b).after
unfolding bounded
bounded_is ns bs bs' x b items e =
    let is : map bound_of (vec_items bs') ≡ map bound_of (vec_items bs) ++ b ∷ [] =
    ap (map bound_of) items ∙ map_push bound_of (vec_items bs) x ∙ ap (λ (m : BoundModel). map bound_of (vec_items bs) ++ m ∷ []) e in
    ap (λ (l : List BoundModel). record { names = map spelled (vec_items ns); bounds = l }) is

pub struck_is : (ns : Vec Name Global) (bs bs' : Vec Bound Global) (i : ℕ) → vec_items bs' ≡ take i (vec_items bs) ++ drop (i + 1) (vec_items bs)
    → plain_of ns bs' ≡ (struck (plain_of ns bs) i).after
unfolding struck
struck_is ns bs bs' i items =
    let xs = vec_items bs in
    let is : map bound_of (vec_items bs') ≡ take i (map bound_of xs) ++ drop (i + 1) (map bound_of xs) =
    ap (map bound_of) items ∙ map-append bound_of (take i xs) (drop (i + 1) xs) ∙ rw (take-map bound_of i xs, drop-map bound_of (i + 1) xs) refl in
    ap (λ (l : List BoundModel). record { names = map spelled (vec_items ns); bounds = l }) is
