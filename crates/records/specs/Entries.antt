-- What a line says, where the events have certain names.
use Rattle.std.specs.Prelude.{ℕ, zero, suc, ◌+◌, ◌-◌, ◌*◌, ◌/◌, ◌%◌, Bool, true, false, cond, ◌&&◌, List, [], ◌∷◌, ◌++◌, map, length, ℤ, neg_ℤ, Some, None, Ok, Err, codes, Option, Result, ◌==◌, int_le, nat_le, slice_index_or}
use Rattle.std.specs.Option.{ok_or, option_map}
use Rattle.std.specs.List.{list_all}
use Rattle.std.specs.Str.{bytes_eq}
use Rattle.text.specs.Checks.{and_then, line_bytes}
use Rattle.text.specs.Split.{fields_of}
use Rattle.timing.specs.declared.bound.Term.{Term}
use Rattle.timing.specs.Bounds.{term_of}
use Rattle.timing.specs.Model.{TermModel, BoundModel}
use Rattle.records.specs.declared.entry.Input.{Input}
use Rattle.records.specs.declared.entry.Need.{Need}
use Rattle.records_fault.specs.declared.fault.RecordFault.TheVariants.{Text, UnknownWord, FieldCount, LowAboveHigh}
use Rattle.records_fault.specs.declared.fault.LoadFault.{LoadFault}
use Rattle.records_fault.specs.declared.fault.LoadFault.TheVariants.{Record}
use Rattle.records.specs.Fields.{carried, placed, side_at, delay_at, byte_at, most_at, event_at, fresh_at}

-- what a line adds: an event, bounds in their order, or a need
pub data Said : Type 0 where
  an_event : List ℕ → Said
  some_bounds : List BoundModel → Said
  a_need : Need → Said

-- TO ≤ FROM + delay
abbrev pub plain_bound : ℕ → ℕ → ℤ → BoundModel
plain_bound to from delay = record { to = to; kind = 0; k = 0; terms = record { from = from; delay = delay } ∷ [] }

-- TO ≤ FROM + delay, where it is given
abbrev pub given_bound : ℕ → ℕ → Option ℤ → List BoundModel
given_bound to from None = []
given_bound to from (Some delay) = plain_bound to from delay ∷ []

-- FROM ≤ TO - LOW
abbrev pub low_bound : ℕ → ℕ → Option ℤ → List BoundModel
low_bound from to low = given_bound from to (option_map neg_ℤ low)

-- TO ≤ FROM + HIGH
abbrev pub high_bound : ℕ → ℕ → Option ℤ → List BoundModel
high_bound from to high = given_bound to from high

abbrev pub linear_bounds : ℕ → ℕ → Option ℤ → Option ℤ → List BoundModel
linear_bounds from to low high = low_bound from to low ++ high_bound from to high

-- the term FROM + HIGH of an input
abbrev pub high_term : Input → TermModel
high_term i = record { from = i.from; delay = i.high }

abbrev pub low_bounds : ℕ → List Input → List BoundModel
low_bounds to [] = []
low_bounds to (i ∷ is) = low_bound i.from to i.low ++ low_bounds to is

-- TO ≤ the latest of FROM + HIGH, then each LOW that is given
abbrev pub delay_bounds : ℕ → List Input → List BoundModel
delay_bounds to inputs = record { to = to; kind = 0; k = 0; terms = map high_term inputs } ∷ low_bounds to inputs

-- a bound of any kind
abbrev pub limit_bound : ℕ → ℕ → ℕ → List Term → BoundModel
limit_bound kind k to terms = record { to = to; kind = kind; k = k; terms = map term_of terms }

-- one side is given, and LOW is not above HIGH
abbrev pub sides_agree : Option ℤ → Option ℤ → Bool
sides_agree None None = false
sides_agree None (Some high) = true
sides_agree (Some low) None = true
sides_agree (Some low) (Some high) = int_le low high

-- of an input HIGH is always given
abbrev pub input_agrees : Input → Bool
input_agrees i = sides_agree i.low (Some i.high)

-- one to eight groups of so many fields, after the first ones; None where the fields do not make them
abbrev pub groups : ℕ → ℕ → ℕ → Option ℕ
groups first width fields =
    cond (nat_le (first + width) fields && (nat_le fields (first + 8 * width) && (fields - first) % width == 0)) (Some ((fields - first) / width)) None

-- what so many groups say, the first at field j, each of them width fields after the last, put after those of said
abbrev pub groups_from : {X : Type 0} → (ℕ → Result X LoadFault) → ℕ → ℕ → ℕ → List X → Result (List X) LoadFault
groups_from at width zero j said = Ok said
groups_from at width (suc c) j said = and_then (at j) (λ x. groups_from at width c (j + width) (said ++ (x ∷ [])))

-- FROM LOW HIGH, from field j on
abbrev pub input_at : List (List ℕ) → ℕ → List (List ℕ) → ℕ → Result Input LoadFault
input_at names n fs j =
    and_then (event_at names (placed n j) (slice_index_or fs j [])) (λ from.
    and_then (carried Record (side_at (placed n (j + 1)) (slice_index_or fs (j + 1) []))) (λ low.
    and_then (carried Record (delay_at (placed n (j + 2)) (slice_index_or fs (j + 2) []))) (λ high.
    Ok (record { from = from; low = low; high = high }))))

-- FROM HIGH, from field j on
abbrev pub term_at : List (List ℕ) → ℕ → List (List ℕ) → ℕ → Result Term LoadFault
term_at names n fs j =
    and_then (event_at names (placed n j) (slice_index_or fs j [])) (λ from.
    and_then (carried Record (delay_at (placed n (j + 1)) (slice_index_or fs (j + 1) []))) (λ high.
    Ok (record { from = from; delay = high })))

-- the record has so many fields, or else the fault is its number of fields
abbrev pub with_fields : ℕ → ℕ → List (List ℕ) → Result Said LoadFault → Result Said LoadFault
with_fields count n fs said = cond (length fs == count) said (Err (Record (FieldCount n)))

-- event NAME
abbrev pub event_says : List (List ℕ) → ℕ → List (List ℕ) → Result Said LoadFault
event_says names n fs = with_fields 2 n fs (and_then (fresh_at names (placed n 1) (slice_index_or fs 1 [])) (λ name. Ok (an_event name)))

-- linear FROM TO LOW HIGH
abbrev pub linear_says : List (List ℕ) → ℕ → List (List ℕ) → Result Said LoadFault
linear_says names n fs =
    with_fields 5 n fs
    (and_then (event_at names (placed n 1) (slice_index_or fs 1 [])) (λ from.
    and_then (event_at names (placed n 2) (slice_index_or fs 2 [])) (λ to.
    and_then (carried Record (side_at (placed n 3) (slice_index_or fs 3 []))) (λ low.
    and_then (carried Record (side_at (placed n 4) (slice_index_or fs 4 []))) (λ high.
    cond (sides_agree low high) (Ok (some_bounds (linear_bounds from to low high))) (Err (Record (LowAboveHigh n))))))))

-- delay TO, then one to eight of FROM LOW HIGH
abbrev pub delay_says : List (List ℕ) → ℕ → List (List ℕ) → Result Said LoadFault
delay_says names n fs =
    and_then (ok_or (groups 2 3 (length fs)) (Record (FieldCount n))) (λ count.
    and_then (event_at names (placed n 1) (slice_index_or fs 1 [])) (λ to.
    and_then (groups_from (input_at names n fs) 3 count 2 []) (λ inputs.
    cond (list_all input_agrees inputs) (Ok (some_bounds (delay_bounds to inputs))) (Err (Record (LowAboveHigh n))))))

-- limit KIND K TO, then one to eight of FROM HIGH
abbrev pub limit_says : List (List ℕ) → ℕ → List (List ℕ) → Result Said LoadFault
limit_says names n fs =
    and_then (ok_or (groups 4 2 (length fs)) (Record (FieldCount n))) (λ count.
    and_then (carried Record (byte_at (placed n 1) (slice_index_or fs 1 []))) (λ kind.
    and_then (carried Record (byte_at (placed n 2) (slice_index_or fs 2 []))) (λ k.
    and_then (event_at names (placed n 3) (slice_index_or fs 3 [])) (λ to.
    and_then (groups_from (term_at names n fs) 2 count 4 []) (λ terms.
    Ok (some_bounds (limit_bound kind k to terms ∷ [])))))))

-- need FROM TO MOST
abbrev pub need_says : List (List ℕ) → ℕ → List (List ℕ) → Result Said LoadFault
need_says names n fs =
    with_fields 4 n fs
    (and_then (event_at names (placed n 1) (slice_index_or fs 1 [])) (λ from.
    and_then (event_at names (placed n 2) (slice_index_or fs 2 [])) (λ to.
    and_then (carried Record (most_at (placed n 3) (slice_index_or fs 3 []))) (λ most.
    Ok (a_need (record { from = from; to = to; most = most }))))))

-- the fields of line n, by their first word
abbrev pub fields_say : List (List ℕ) → ℕ → List (List ℕ) → Result Said LoadFault
fields_say names n fs =
    cond (bytes_eq (slice_index_or fs 0 []) (codes "event")) (event_says names n fs)
    (cond (bytes_eq (slice_index_or fs 0 []) (codes "linear")) (linear_says names n fs)
    (cond (bytes_eq (slice_index_or fs 0 []) (codes "delay")) (delay_says names n fs)
    (cond (bytes_eq (slice_index_or fs 0 []) (codes "limit")) (limit_says names n fs)
    (cond (bytes_eq (slice_index_or fs 0 []) (codes "need")) (need_says names n fs)
    (Err (Record (UnknownWord n)))))))

-- line n
abbrev pub line_says : List (List ℕ) → ℕ → List ℕ → Result Said LoadFault
line_says names n line = and_then (carried (λ f. Record (Text f)) (line_bytes n line)) (λ _. fields_say names n (fields_of line))
