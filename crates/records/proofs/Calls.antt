-- What the sheet's calls answer to a line, against what the line is to add.
use Rattle.std.proofs.Common.{◌≡◌, ℕ, ◌+◌, ◌<◌, Bool, true, false, cond, not, ltb, List, [], ◌∷◌, ◌++◌, length, get_or, take, drop, pos, neg_ℤ, is_some, None, Ok, Err, Result, IfOk, sym, refl, ap, ◌∙◌, subst, ap₂, arith}
use lib.Signed.{le_z}
use Rattle.std.specs.List.{AllByRecursion}
use Rattle.std.proofs.lemmas.List.{append_assoc, append-nil, take_more, take-append-drop, drop_more}
use Rattle.std.proofs.lemmas.Int.{ints}
use Rattle.std.proofs.lemmas.Bool.{lt-ltb}
use Rattle.std.proofs.lemmas.Result.{IfOk-at_ok, IfOk-weaker}
use Rattle.rules.specs.Laws.{Admits}
use Rattle.rules.specs.declared.RuleSet.{Ghosts}
use Rattle.sheet.specs.Model.{sheet_of}
use Rattle.text.specs.Names.{is_name}
use Rattle.text.specs.Checks.{and_then}
use Rattle.timing.specs.Limits.{delay_limit}
use Rattle.timing.specs.Model.{TermModel, BoundModel, TermWithin, BoundWithin}
use Rattle.sheet.specs.declared.fault.CallFault.{CallFault}
use Rattle.sheet.specs.declared.fault.CallFault.TheVariants.{TooManyEvents, TooManyBounds, NotAdmitted}
use Rattle.sheet.specs.Plain.{PlainSheet, number_in, terms_fault, Outcome, Gives, refused, named, bounded, event_call, bound_call}
use Rattle.records.specs.declared.entry.Input.{Input}
use Rattle.records_fault.specs.declared.fault.LoadFault.{LoadFault}
use Rattle.records_fault.specs.declared.fault.LoadFault.TheVariants.{TooManyEvents as noEvent, TooManyBounds as noRoom, NotAdmitted as noRule}
use Rattle.records.specs.Fields.{map_ok}
use Rattle.records.specs.Entries.{some_bounds, low_bound, low_bounds}
use Rattle.records.specs.Loads.{State, admitted, event_added, bound_added, bounds_added, added}
use Rattle.records.specs.Refusals.{at_line}
use Rattle.records.specs.declared.load.Loading.{Loading}
use Rattle.records.specs.Loadings.{names_in, state_in, adding, AddsSaid}
use Rattle.records.proofs.After.{after, after_map, either}

-- of terms within the sheet there is no fault
no_fault : (n : ℕ) (ts : List TermModel) → AllByRecursion (TermWithin n delay_limit) ts → terms_fault n ts ≡ None
no_fault n [] w = refl
no_fault n (t ∷ ts) w =
    let low : le_z (neg_ℤ (pos delay_limit)) t.delay ≡ true = let h = w.0.1 in grind (arith, ints) in
    let high : le_z t.delay (pos delay_limit) ≡ true = let h = w.0.2 in grind (arith, ints) in
    rw (lt-ltb t.from n w.0.0, low, high) (no_fault n ts w.1)

-- a bound within the sheet
bound_call_lem : (admits : Admits) (s : PlainSheet) (b : BoundModel) → BoundWithin (length s.names) delay_limit b
    → bound_call admits s b ≡ cond (not (admitted admits b)) (refused s NotAdmitted) (cond (ltb (length s.bounds) 256) (bounded s b) (refused s TooManyBounds))
unfolding bound_call
bound_call_lem admits s b w = rw (lt-ltb b.to (length s.names) w.0, no_fault (length s.names) b.terms w.1)

bound_ways : (n : ℕ) (s : PlainSheet) (b : BoundModel) (x y : Bool)
    → let o = cond (not x) (refused s NotAdmitted) (cond y (bounded s b) (refused s TooManyBounds)) in
    map_ok (λ _. o.after) (at_line n o.answer)
    ≡ cond x (cond y (Ok (record { names = s.names; bounds = s.bounds ++ (b ∷ []) })) (Err (noRoom n))) (Err (noRule n))
unfolding refused bounded
bound_ways n s b true true = refl
bound_ways n s b true false = refl
bound_ways n s b false y = refl

pub bound_is_added : (admits : Admits) (n : ℕ) (s : PlainSheet) (b : BoundModel) (r : Result ℕ CallFault) (after : PlainSheet)
    → BoundWithin (length s.names) delay_limit b → Gives (bound_call admits s b) r after → map_ok (λ _. after) (at_line n r) ≡ bound_added admits n s b
bound_is_added admits n s b r after w gives =
    let o = bound_call admits s b in
    ap₂ (λ (a : PlainSheet) (q : Result ℕ CallFault). map_ok (λ _. a) (at_line n q)) gives.sheet gives.answer
    ∙ ap (λ (p : Outcome CallFault). map_ok (λ _. p.after) (at_line n p.answer)) (bound_call_lem admits s b w)
    ∙ bound_ways n s b (admitted admits b) (ltb (length s.bounds) 256)

-- a new name
event_call_lem : (s : PlainSheet) (name : List ℕ) → is_name name ≡ true → is_some (number_in s.names name) ≡ false
    → event_call s name ≡ cond (ltb (length s.names) 64) (named s name) (refused s TooManyEvents)
unfolding event_call
event_call_lem s name is new = rw (is, new)

abbrev as_line : ℕ → Result ℕ CallFault → Result (Unit {0}) LoadFault
as_line n (Ok number) = Ok tt
as_line n (Err fault) = Err (noEvent n)

event_ways : (n : ℕ) (s : PlainSheet) (name : List ℕ) (x : Bool)
    → let o = cond x (named s name) (refused s TooManyEvents) in
    map_ok (λ _. o.after) (as_line n o.answer) ≡ cond x (Ok (record { names = s.names ++ (name ∷ []); bounds = s.bounds })) (Err (noEvent n))
unfolding refused named
event_ways n s name true = refl
event_ways n s name false = refl

pub event_is_added : (n : ℕ) (s : PlainSheet) (name bytes : List ℕ) (r : Result ℕ CallFault) (after : PlainSheet)
    → is_name name ≡ true → is_some (number_in s.names name) ≡ false → bytes ≡ name → Gives (event_call s bytes) r after
    → map_ok (λ _. after) (as_line n r) ≡ event_added n s name
event_is_added n s name bytes r after is new same gives =
    ap₂ (λ (a : PlainSheet) (q : Result ℕ CallFault). map_ok (λ _. a) (as_line n q)) gives.sheet gives.answer
    ∙ ap (λ (p : Outcome CallFault). map_ok (λ _. p.after) (as_line n p.answer)) (ap (event_call s) same ∙ event_call_lem s name is new)
    ∙ event_ways n s name (ltb (length s.names) 64)

-- what holds of two lists put together holds of each
pub all-parts : {X : Type 0} (P : X → Type 0) (xs ys : List X) → AllByRecursion P (xs ++ ys) → AllByRecursion P xs × AllByRecursion P ys
all-parts P [] ys h = (tt, h)
all-parts P (x ∷ xs) ys h = let r = all-parts P xs ys h.1 in ((h.0, r.0), r.1)

-- bounds one after another
module _ (admits : Admits) (n : ℕ) where
  pub bounds_append : (s : PlainSheet) (xs ys : List BoundModel)
      → bounds_added admits n s (xs ++ ys) ≡ and_then (bounds_added admits n s xs) (λ t. bounds_added admits n t ys)
  bounds_append s [] ys = refl
  bounds_append s (x ∷ xs) ys = go (bound_added admits n s x) (λ t. bounds_append t xs ys)
    where
      go : (r : Result PlainSheet LoadFault) → ((t : PlainSheet) → bounds_added admits n t (xs ++ ys) ≡ and_then (bounds_added admits n t xs) (λ u. bounds_added admits n u ys))
          → and_then r (λ t. bounds_added admits n t (xs ++ ys)) ≡ and_then (and_then r (λ t. bounds_added admits n t xs)) (λ t. bounds_added admits n t ys)
      go (Ok t) rest = rest t
      go (Err e) rest = refl

  -- a bound alone
  pub bound_alone : (s : PlainSheet) (b : BoundModel) → bounds_added admits n s (b ∷ []) ≡ bound_added admits n s b
  bound_alone s b = go (bound_added admits n s b)
    where
      go : (r : Result PlainSheet LoadFault) → and_then r (λ t. Ok t) ≡ r
      go (Ok t) = refl
      go (Err e) = refl

  -- bounds leave the events alone
  bound_keeps_names : (s : PlainSheet) (b : BoundModel) → IfOk (bound_added admits n s b) (λ t. t.names ≡ s.names)
  bound_keeps_names s b = either _ (admitted admits b) _ _ (either _ (ltb (length s.bounds) 256) _ _ refl tt) tt

  pub bounds_keep_names : (s : PlainSheet) (bs : List BoundModel) → IfOk (bounds_added admits n s bs) (λ t. t.names ≡ s.names)
  bounds_keep_names s [] = refl
  bounds_keep_names s (b ∷ bs) =
      after _ (bound_added admits n s b) _ (bound_keeps_names s b)
      (λ u k. IfOk-weaker (bounds_added admits n u bs) (λ t. t.names ≡ u.names) (λ t. t.names ≡ s.names) (λ t e. e ∙ k) (bounds_keep_names u bs))

-- a state with another sheet
abbrev pub With : State → PlainSheet → State
With s t = record { sheet = t; needs = s.needs }

-- lines that add bounds to a state
module _ (admits : Admits) (slots n : ℕ) where
  added_append : (s : State) (xs ys : List BoundModel)
      → added admits slots n s (some_bounds (xs ++ ys)) ≡ and_then (added admits slots n s (some_bounds xs)) (λ t. added admits slots n t (some_bounds ys))
  added_append s xs ys = ap (map_ok (With s)) (bounds_append admits n s.sheet xs ys) ∙ go (bounds_added admits n s.sheet xs)
    where
      go : (r : Result PlainSheet LoadFault)
          → map_ok (With s) (and_then r (λ t. bounds_added admits n t ys)) ≡ and_then (map_ok (With s) r) (λ t. added admits slots n t (some_bounds ys))
      go (Ok t) = refl
      go (Err e) = refl

  -- a bound alone, by the sheet's answer to it
  pub alone_is_added : (s : State) (b : BoundModel) (r : Result ℕ CallFault) (after : PlainSheet)
      → BoundWithin (length s.sheet.names) delay_limit b → Gives (bound_call admits s.sheet b) r after
      → map_ok (λ _. With s after) (at_line n r) ≡ added admits slots n s (some_bounds (b ∷ []))
  alone_is_added s b r after w gives =
      go (at_line n r) ∙ ap (map_ok (With s)) (bound_is_added admits n s.sheet b r after w gives ∙ sym (bound_alone admits n s.sheet b))
    where
      go : (q : Result (Unit {0}) LoadFault) → map_ok (λ _. With s after) q ≡ map_ok (With s) (map_ok (λ _. after) q)
      go (Ok x) = refl
      go (Err e) = refl

-- parts of a line that are added one after another
module _ {R : Type 0} {G : Ghosts R} (before : Loading R G) where
  abbrev adds : List BoundModel → Result State LoadFault
  adds bs = adding before (some_bounds bs)

  append_adds : (xs ys : List BoundModel) (r : Result State LoadFault) → r ≡ adds xs
      → adds (xs ++ ys) ≡ and_then r (λ u. added (G.admitted before.sheet.now.rules) (length before.slots.now) before.line u (some_bounds ys))
  append_adds xs ys r e =
      added_append (G.admitted before.sheet.now.rules) (length before.slots.now) before.line (state_in before) xs ys
      ∙ ap (λ (q : Result State LoadFault). and_then q (λ u. added (G.admitted before.sheet.now.rules) (length before.slots.now) before.line u (some_bounds ys))) (sym e)

  pub names_kept : (here : Loading R G) (bs : List BoundModel) → AddsSaid (some_bounds bs) (Ok tt) before here → names_in here ≡ names_in before
  names_kept here bs first =
      IfOk-at_ok (λ (s : State). s.sheet.names ≡ names_in before) (sym first.adds)
      (after_map (λ (s : State). s.sheet.names ≡ names_in before) (With (state_in before)) (bounds_added (G.admitted before.sheet.now.rules) before.line (sheet_of before.sheet.now) bs)
      (bounds_keep_names (G.admitted before.sheet.now.rules) before.line (sheet_of before.sheet.now) bs) (λ t e. e))

  pub adds_on : (here there : Loading R G) (xs ys : List BoundModel) (r : Result (Unit {0}) LoadFault) → AddsSaid (some_bounds xs) (Ok tt) before here
      → AddsSaid (some_bounds ys) r here there → AddsSaid (some_bounds (xs ++ ys)) r before there
  adds_on here there xs ys r first next = record {
    adds = next.adds ∙ ap₂ (λ (a : Admits) (k : ℕ). added a k here.line (state_in here) (some_bounds ys)) (ap G.admitted first.same.rules) first.same.room
        ∙ ap (λ (n : ℕ). added (G.admitted before.sheet.now.rules) (length before.slots.now) n (state_in here) (some_bounds ys)) first.line
        ∙ sym (append_adds xs ys (Ok (state_in here)) first.adds);
    same = record {
      sheet = next.same.sheet ∙ first.same.sheet;
      slots = next.same.slots ∙ first.same.slots;
      rules = next.same.rules ∙ first.same.rules;
      room = next.same.room ∙ first.same.room;
    };
    line = next.line ∙ first.line;
  }

  pub adds_stop : (there : Loading R G) (xs ys : List BoundModel) (f : LoadFault) → AddsSaid (some_bounds xs) (Err f) before there → AddsSaid (some_bounds (xs ++ ys)) (Err f) before there
  adds_stop there xs ys f first = record { adds = sym (append_adds xs ys (Err f) first.adds); same = first.same; line = first.line }

-- the lows of the inputs, one after another
lows_append : (to : ℕ) (xs ys : List Input) → low_bounds to (xs ++ ys) ≡ low_bounds to xs ++ low_bounds to ys
lows_append to [] ys = refl
lows_append to (x ∷ xs) ys =
    ap (λ (l : List BoundModel). low_bound x.from to x.low ++ l) (lows_append to xs ys)
    ∙ sym (append_assoc (low_bound x.from to x.low) (low_bounds to xs) (low_bounds to ys))

module _ (to : ℕ) (is : List Input) (i : ℕ) (d : Input) (lt : i < length is) where
  abbrev pub this : List BoundModel
  this = low_bound (get_or is i d).from to (get_or is i d).low

  pub lows_next : low_bounds to (take (i + 1) is) ≡ low_bounds to (take i is) ++ this
  lows_next =
      ap (low_bounds to) (take_more is i d lt) ∙ lows_append to (take i is) (get_or is i d ∷ [])
      ∙ ap (λ (l : List BoundModel). low_bounds to (take i is) ++ l) (append-nil this)

  pub lows_split : low_bounds to is ≡ low_bounds to (take i is) ++ (this ++ low_bounds to (drop (i + 1) is))
  lows_split =
      ap (low_bounds to) (sym (take-append-drop i is) ∙ ap (λ (l : List Input). take i is ++ l) (drop_more is i d lt))
      ∙ lows_append to (take i is) (get_or is i d ∷ drop (i + 1) is)

  pub low_of : (P : BoundModel → Type 0) → AllByRecursion P (low_bounds to is) → AllByRecursion P this
  low_of P h =
      (all-parts P this (low_bounds to (drop (i + 1) is)) (all-parts P (low_bounds to (take i is)) (this ++ low_bounds to (drop (i + 1) is)) (subst (AllByRecursion P) lows_split h)).1).0

  -- the next low of a loop over the inputs
  module _ {R : Type 0} {G : Ghosts R} (before here there : Loading R G)
      (so_far : AddsSaid (some_bounds (low_bounds to (take i is))) (Ok tt) before here) where
    pub lows_more : AddsSaid (some_bounds this) (Ok tt) here there → AddsSaid (some_bounds (low_bounds to (take (i + 1) is))) (Ok tt) before there
    lows_more next =
        subst (λ (bs : List BoundModel). AddsSaid (some_bounds bs) (Ok tt) before there) (sym lows_next)
        (adds_on before here there (low_bounds to (take i is)) this (Ok tt) so_far next)

    pub lows_stop : (f : LoadFault) → AddsSaid (some_bounds this) (Err f) here there → AddsSaid (some_bounds (low_bounds to is)) (Err f) before there
    lows_stop f next =
        subst (λ (bs : List BoundModel). AddsSaid (some_bounds bs) (Err f) before there)
        (append_assoc (low_bounds to (take i is)) this (low_bounds to (drop (i + 1) is)) ∙ sym lows_split)
        (adds_stop before there (low_bounds to (take i is) ++ this) (low_bounds to (drop (i + 1) is)) f
        (adds_on before here there (low_bounds to (take i is)) this (Err f) so_far next))
