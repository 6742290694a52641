-- What an entry of the program says, and what a sheet must have for it.
use Rattle.std.specs.Prelude.{◌≡◌, ℕ, ◌<◌, true, false, List, [], ◌∷◌, length, is_some, Ok, Err, Result}
use Rattle.std.specs.List.{AllByRecursion}
use Rattle.text.specs.Names.{is_name}
use Rattle.text.specs.Spelled.{spelled}
use Rattle.timing.specs.Limits.{delay_limit}
use Rattle.timing.specs.Model.{BoundWithin}
use Rattle.sheet.specs.Plain.{number_in}
use Rattle.records.specs.declared.entry.Entry.{Entry}
use Rattle.records.specs.declared.entry.Entry.TheVariants.{Event, Linear, Delay, Limit, Need}
use Rattle.records_fault.specs.declared.fault.LoadFault.{LoadFault}
use Rattle.records.specs.Entries.{Said, an_event, some_bounds, a_need, linear_bounds, delay_bounds, limit_bound}

abbrev pub said_by : Entry → Said
said_by (Event name) = an_event (spelled name)
said_by (Linear l) = some_bounds (linear_bounds l.from l.to l.low l.high)
said_by (Delay d) = some_bounds (delay_bounds d.to d.inputs.items)
said_by (Limit l) = some_bounds (limit_bound l.kind l.k l.to l.terms.items ∷ [])
said_by (Need n) = a_need n

-- a line was read as is defined
abbrev pub Reads : Result Entry LoadFault → Result Said LoadFault → Type 0
Reads (Ok entry) said = said ≡ Ok (said_by entry)
Reads (Err fault) said = said ≡ Err fault

-- a new name, or bounds or a need among events with these names
abbrev pub Fitting : List (List ℕ) → Said → Type 0
Fitting names (an_event name) = (is_name name ≡ true) × (is_some (number_in names name) ≡ false)
Fitting names (some_bounds bounds) = AllByRecursion (BoundWithin (length names) delay_limit) bounds
Fitting names (a_need need) = (need.from < length names) × (need.to < length names)
