-- Text put on a page, piece after piece.
use Rattle.std.proofs.Common.{◌≡◌, ℕ, zero, suc, ◌+◌, ◌<◌, ◌≤◌, List, [], ◌∷◌, ◌++◌, map, length, get_or, take, min, codes, decimal, Bor, ◌-◌, sym, refl, ap, subst, ◌∙◌, append_assoc, arith}
use Rattle.std.specs.List.{flat_map, AllByRecursion}
use Rattle.std.proofs.Math.Seq.{take-append-add}
use Rattle.std.proofs.lemmas.Grind.{common_steps}
use Rattle.std.proofs.lemmas.List.{append-nil, take_all, take_min, take_more, flat_map_more}
use Rattle.text.specs.Split.{tabbed}
use Rattle.text.specs.Spelled.{spelled}
use Rattle.text.specs.declared.name.Name.{Name}
use Rattle.rules.specs.declared.RuleSet.{Ghosts}
use Rattle.timing.specs.declared.bound.Bound.{Bound}
use Rattle.timing.specs.declared.bound.Term.{Term}
use Rattle.timing.specs.Bounds.{term_of, bound_of}
use Rattle.timing.specs.Limits.{delay_limit}
use Rattle.timing.specs.Model.{BoundModel, BoundWithin}
use Rattle.timing.proofs.Keeping.{all_both}
use Rattle.sheet.specs.declared.drawn.Drawn.{Drawn}
use Rattle.sheet.specs.Model.{sheet_of}
use Rattle.sheet.proofs.Standing.{few_events, few_bounds, sheet_is, all-names}
use Rattle.records_write.specs.Shown.{shown, names_of, fitting, Puts}
use Rattle.sheet.specs.Plain.{PlainSheet}
use Rattle.records_write.specs.Writes.{after_tabs, event_fields, term_fields, limit_fields, line_of, written, ByteSized}
use Rattle.records_write.specs.declared.page.Page.{Page}
use Rattle.records_write.proofs.ReadBack.{Shaped}
use Rattle.records_write.proofs.RoundTrip.{Made}

-- what is left out of a text is left out of a longer one
cut : (n : ℕ) (s t : List ℕ) → take n (take n s ++ t) ≡ take n (s ++ t)
cut zero s t = refl
cut (suc n) [] t = refl
cut (suc n) (x ∷ s) t = ap (λ (l : List ℕ). x ∷ l) (cut n s t)

fitting_more : (s t : List ℕ) → fitting (fitting s ++ t) ≡ fitting (s ++ t)
unfolding fitting
fitting_more s t = cut 65536 s t

pub fitting_put : (s t u : List ℕ) → length s ≤ 65536 → u ≡ s ++ take (min (65536 - length s) (length t)) t → u ≡ fitting (s ++ t)
unfolding fitting
fitting_put s t u fits e =
    let full : length s + (65536 - length s) ≡ 65536 = omega arith in
    e ∙ ap (λ (l : List ℕ). s ++ l) (take_min (65536 - length s) t) ∙ sym (take-append-add s t (65536 - length s)) ∙ ap (λ (n : ℕ). take n (s ++ t)) full

pub fitting_whole : (s : List ℕ) → length s ≤ 65536 → fitting s ≡ s
unfolding fitting
fitting_whole s short = take_all 65536 s short

-- one text after another
pub puts_then : {p q r : Page} (a b : List ℕ) → Puts p a q → Puts q b r → Puts p (a ++ b) r
puts_then {p} {q} {r} a b f g = record {
  bytes = g.bytes ∙ ap (λ (l : List ℕ). fitting (l ++ b)) f.bytes ∙ fitting_more (shown p ++ a) b ∙ ap fitting (append_assoc (shown p) a b);
  names = g.names ∙ f.names;
}

pub puts_same : {p q : Page} {a b : List ℕ} → a ≡ b → Puts p a q → Puts p b q
puts_same {p} {q} e f = subst (λ (l : List ℕ). Puts p l q) e f

pub puts_none : (p : Page) → Puts p [] p
puts_none p = record { bytes = sym (ap fitting (append-nil (shown p)) ∙ fitting_whole (shown p) p.fits); names = refl }

names_stay : {p q : Page} {a : List ℕ} → Puts p a q → names_of q ≡ names_of p
names_stay f = ap (λ (names : Bor (List Name)). map spelled names.now) f.names

-- a field, by what it is read as
pub puts_field : {p q : Page} {a b : List ℕ} → a ≡ b → Puts p (9 ∷ a) q → Puts p (9 ∷ b) q
puts_field e f = puts_same (ap (λ (l : List ℕ). 9 ∷ l) e) f

-- a word, and fields with a tab before each
pub tabbed_after : (f : List ℕ) (fs : List (List ℕ)) → tabbed (f ∷ fs) ≡ f ++ after_tabs fs
tabbed_after f [] = sym (append-nil f)
tabbed_after f (g ∷ gs) = ap (λ (l : List ℕ). f ++ (9 ∷ l)) (tabbed_after g gs)

-- FROM HIGH of each term, as they are put
pub terms_joined : (names : List (List ℕ)) (ts : List Term)
    → flat_map (λ t. after_tabs (term_fields names (term_of t ∷ []))) ts ≡ after_tabs (term_fields names (map term_of ts))
terms_joined names [] = refl
terms_joined names (t ∷ ts) =
    ap (λ (l : List ℕ). after_tabs (term_fields names (term_of t ∷ [])) ++ l) (terms_joined names ts) ∙ simp append_assoc

regroup : (w a b n t e : List ℕ)
    → w ++ ((9 ∷ a) ++ ((9 ∷ b) ++ ((9 ∷ n) ++ (t ++ e)))) ≡ (w ++ (9 ∷ (a ++ (9 ∷ (b ++ (9 ∷ (n ++ t))))))) ++ e
regroup w a b n t e = simp append_assoc

-- a limit line, piece after piece
pub limit_put : {p q r s t u v : Page} (b : BoundModel)
    → Puts p (codes "limit") q → Puts q (9 ∷ decimal b.kind) r → Puts r (9 ∷ decimal b.k) s → Puts s (9 ∷ get_or (names_of s) b.to []) t
    → Puts t (after_tabs (term_fields (names_of t) b.terms)) u → Puts u (10 ∷ []) v → Puts p (line_of (limit_fields (names_of p) b)) v
limit_put {p} {q} {r} {s} {t} {u} {v} b word kind k to terms end =
    let names = names_of p in
    let three : names_of s ≡ names = names_stay k ∙ names_stay kind ∙ names_stay word in
    let four : names_of t ≡ names = names_stay to ∙ three in
    let to_here = puts_field (ap (λ (ns : List (List ℕ)). get_or ns b.to []) three) to in
    let terms_here = puts_same (ap (λ (ns : List (List ℕ)). after_tabs (term_fields ns b.terms)) four) terms in
    let pieces = puts_then _ _ word (puts_then _ _ kind (puts_then _ _ k (puts_then _ _ to_here (puts_then _ _ terms_here end)))) in
    puts_same
    (regroup (codes "limit") (decimal b.kind) (decimal b.k) (get_or names b.to []) (after_tabs (term_fields names b.terms)) (10 ∷ [])
    ∙ ap (λ (l : List ℕ). (codes "limit" ++ (9 ∷ (decimal b.kind ++ (9 ∷ (decimal b.k ++ (9 ∷ l)))))) ++ (10 ∷ []))
    (sym (tabbed_after (get_or names b.to []) (term_fields names b.terms))))
    pieces

-- a loop that puts a piece for each element
pub pieces_more : {X : Type 0} (f : List (List ℕ) → X → List ℕ) {p q r : Page} (xs : List X) (i : ℕ) (x d : X) → i < length xs → x ≡ get_or xs i d
    → Puts p (flat_map (f (names_of p)) (take i xs)) q → Puts q (f (names_of q) x) r → Puts p (flat_map (f (names_of p)) (take (i + 1) xs)) r
pieces_more {X} f {p} {q} {r} xs i x d lt is before piece =
    let g = f (names_of p) in
    let here = puts_same (ap (λ (ns : List (List ℕ)). f ns x) (names_stay before)) piece in
    puts_same
    (flat_map_more g [] (take i xs) x ∙ ap (flat_map g) (ap (λ (y : X). take i xs ++ y ∷ []) is ∙ sym (take_more xs i d lt)))
    (puts_then (flat_map g (take i xs)) (g x) before here)

pub pieces_all : {X : Type 0} (f : X → List ℕ) {p q : Page} (xs : List X) (i : ℕ) → length xs ≤ i → Puts p (flat_map f (take i xs)) q → Puts p (flat_map f xs) q
pieces_all f xs i le before = puts_same (ap (flat_map f) (take_all i xs le)) before

-- the text of a whole sheet
pub sheet_put : {p q r : Page} (s : PlainSheet) → shown p ≡ [] → names_of p ≡ s.names
    → Puts p (flat_map (λ name. line_of (event_fields name)) (names_of p)) q → Puts q (flat_map (λ b. line_of (limit_fields (names_of q) b)) s.bounds) r
    → length (written s) ≤ 65536 → shown r ≡ written s
sheet_put {p} {q} {r} s empty names events limits short =
    let all = puts_then _ _ (puts_same (ap (flat_map (λ name. line_of (event_fields name))) names) events)
    (puts_same (ap (λ (ns : List (List ℕ)). flat_map (λ b. line_of (limit_fields ns b)) s.bounds) (names_stay events ∙ names)) limits) in
    all.bytes ∙ ap (λ (l : List ℕ). fitting (l ++ written s)) empty ∙ fitting_whole (written s) short

sized : (b : Bound) → (1 ≤ length (bound_of b).terms) × (length (bound_of b).terms ≤ 8)
sized b = (grind (arith, common_steps), grind (arith, common_steps))

all-sized : (bs : List Bound) → AllByRecursion (λ (b : BoundModel). (1 ≤ length b.terms) × (length b.terms ≤ 8)) (map bound_of bs)
all-sized [] = tt
all-sized (b ∷ bs) = (sized b, all-sized bs)

module _ {R : Type 0} {G : Ghosts R} (d : Drawn R G) where
  abbrev names : List (List ℕ)
  names = (sheet_of d).names

  pub made_of : AllByRecursion ByteSized (sheet_of d).bounds → Made (sheet_of d)
  made_of bytes = record {
    few = few_events d;
    named = record { well = all-names d; apart = d.apart };
    most = few_bounds d;
    shaped = all_both (λ b. ((1 ≤ length b.terms) × (length b.terms ≤ 8)) × BoundWithin (length names) delay_limit b) ByteSized (Shaped names)
        (λ b p q. record { on = p.1.0; kind = q.0; k = q.1; some = p.0.0; most = p.0.1; terms = p.1.1 }) (sheet_of d).bounds
        (all_both (λ b. (1 ≤ length b.terms) × (length b.terms ≤ 8)) (BoundWithin (length names) delay_limit)
        (λ b. ((1 ≤ length b.terms) × (length b.terms ≤ 8)) × BoundWithin (length names) delay_limit b)
        (λ b p q. (p, q)) (sheet_of d).bounds (all-sized d.bounds.items) (sheet_is d).bounds) bytes;
  }
