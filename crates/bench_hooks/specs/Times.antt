-- How many of some settlings of one sheet find a timetable: all or none.
use Rattle.std.specs.Prelude.{◌≡◌, ℕ, ◌<◌, ◌≤◌, Ok, Err, Result}
use Rattle.rules.specs.Laws.{Enough}
use Rattle.timing.specs.Timetables.{Contradictory}
use Rattle.sheet.specs.Plain.{PlainSheet}
use Rattle.settle.specs.Held.{events}
use Rattle.settle.specs.Meaning.{Consistent}
use Rattle.records_fault.specs.declared.fault.LoadFault.{LoadFault}
use Rattle.embed.specs.declared.failure.Failure.{Failure}
use Rattle.embed.specs.declared.failure.Failure.TheVariants.{Text}
use Rattle.embed.specs.Asking.{OrNoMemory}

-- all, from an event of a sheet that some timetable keeps; else none
pub record Counts (E : Enough) (s : PlainSheet) (source times count : ℕ) : Type 0 where
  pub all : source < events s → Consistent E s.bounds → count ≡ times
  pub no_source : events s ≤ source → count ≡ 0
  pub knotted : Contradictory E s.bounds → count ≡ 0

abbrev pub CountsLoaded : Enough → Result PlainSheet LoadFault → ℕ → ℕ → Result ℕ Failure → Type 0
CountsLoaded E (Ok s) source times r = (count : ℕ) × Counts E s source times count × (r ≡ Ok count)
CountsLoaded E (Err fault) source times r = r ≡ Err (Text fault)

abbrev pub TextCounts : Enough → Result PlainSheet LoadFault → ℕ → ℕ → Result ℕ Failure → Type 0
TextCounts E said source times r = OrNoMemory r (CountsLoaded E said source times r)
