-- A need between events of the sheet.
use Rattle.std.specs.Prelude.{ℕ, ◌<◌}
use Rattle.records.specs.declared.entry.Need.{Need}

abbrev pub Known : ℕ → Need → Type 0
Known n need = (need.from < n) × (need.to < n)
