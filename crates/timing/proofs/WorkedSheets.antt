-- The answers of the worked sheets, by one computed test over the table.
use Rattle.std.proofs.Common.{◌≡◌, ℕ, Bool, true, false, ◌&&◌, T, List, [], ◌∷◌, get_or, pos, refl}
use Rattle.std.proofs.lemmas.Bool.{and_parts, both_ways}
use Rattle.rules.specs.Sets.{vote_enough}
use Rattle.rules.specs.SetsLemmas.{vote_laws}
use Rattle.timing.specs.declared.worked.WorkedAnswer.{WorkedAnswer}
use Rattle.timing.specs.declared.worked.WorkedAnswer.TheVariants.{Placed, Knotted}
use Rattle.timing.specs.Limits.{delay_limit}
use Rattle.timing.specs.Timetables.{times}
use Rattle.timing.specs.Worked.{WorkedSheet, Right, AllRight}
use Rattle.timing.proofs.Certificates.{shows_places, places_by, shows_contradictory, contradictory_by}
use Rattle.timing.proofs.KnotCertificates.{Trial, admits, sinks, shows_knot, knot_by}

-- an order in which the events are held, or sink; for a knot, the trials of its bounds too
pub record Certificate : Type 0 where
  pub order : List ℕ
  pub trials : List Trial

abbrev shows : WorkedSheet → WorkedAnswer → Certificate → Bool
shows w (Placed places) c = shows_places vote_enough delay_limit w.events w.source w.bounds (times places) c.order
shows w (Knotted flags) c = shows_contradictory vote_enough w.bounds c.order && shows_knot vote_enough w.bounds (λ i. get_or flags i false) c.trials

shown : (w : WorkedSheet) (a : WorkedAnswer) (c : Certificate) → shows w a c ≡ true → Right w a
shown w (Placed places) c h = places_by vote_laws w.bounds delay_limit w.events w.source (times places) c.order h
shown w (Knotted flags) c h =
    let p = and_parts (shows_contradictory vote_enough w.bounds c.order) _ h in
    (contradictory_by vote_laws w.bounds c.order p.0, knot_by vote_laws w.bounds (λ i. get_or flags i false) c.trials p.1)

-- row by row
abbrev pub shows_all : List WorkedSheet → List WorkedAnswer → List Certificate → Bool
shows_all [] [] cs = true
shows_all [] (a ∷ answers) cs = false
shows_all (w ∷ sheets) [] cs = false
shows_all (w ∷ sheets) (a ∷ answers) [] = false
shows_all (w ∷ sheets) (a ∷ answers) (c ∷ cs) = shows w a c && shows_all sheets answers cs

rows_shown : (sheets : List WorkedSheet) (answers : List WorkedAnswer) (cs : List Certificate) → shows_all sheets answers cs ≡ true → AllRight sheets answers
unfolding AllRight
rows_shown [] [] cs h = tt
rows_shown [] (a ∷ answers) cs h = both_ways false refl h
rows_shown (w ∷ sheets) [] cs h = both_ways false refl h
rows_shown (w ∷ sheets) (a ∷ answers) [] h = absurd (both_ways false refl h)
rows_shown (w ∷ sheets) (a ∷ answers) (c ∷ cs) h =
    let p = and_parts (shows w a c) _ h in (shown w a c p.0, rows_shown sheets answers cs p.1)

pub all_shown : (sheets : List WorkedSheet) (answers : List WorkedAnswer) (cs : List Certificate) → T (shows_all sheets answers cs) → AllRight sheets answers
all_shown sheets answers cs h = rows_shown sheets answers cs (passed (shows_all sheets answers cs) h)
  where
    passed : (b : Bool) → T b → b ≡ true
    passed true h = refl
    passed false h = absurd h

abbrev held : List ℕ → Certificate
held order = record { order = order; trials = [] }

abbrev sunk : List ℕ → List Trial → Certificate
sunk order trials = record { order = order; trials = trials }

abbrev pub certificates : List Certificate
certificates =
    held (0 ∷ 2 ∷ 1 ∷ [])
    ∷ held (0 ∷ 2 ∷ 1 ∷ [])
    ∷ held (2 ∷ 0 ∷ 1 ∷ [])
    ∷ held (0 ∷ 1 ∷ 2 ∷ [])
    ∷ sunk (0 ∷ 1 ∷ 2 ∷ []) (admits [] ∷ admits (pos 0 ∷ pos 1 ∷ pos 0 ∷ []) ∷ admits (pos 0 ∷ pos 0 ∷ pos 1 ∷ []) ∷ [])
    ∷ held (0 ∷ 1 ∷ 2 ∷ [])
    ∷ held (0 ∷ [])
    ∷ sunk (0 ∷ []) (admits [] ∷ [])
    ∷ sunk (0 ∷ []) (sinks (1 ∷ []) ∷ admits [] ∷ [])
    ∷ held (0 ∷ 1 ∷ 2 ∷ 3 ∷ [])
    ∷ held (0 ∷ 1 ∷ 2 ∷ 3 ∷ [])
    ∷ held (0 ∷ 1 ∷ 2 ∷ 3 ∷ [])
    ∷ held (0 ∷ [])
    ∷ []
