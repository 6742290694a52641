-- A load while it goes on.
use Rattle.std.specs.Prelude.{◌≡◌, ℕ, List, length, Result}
use Rattle.rules.specs.declared.RuleSet.{Ghosts}
use Rattle.sheet.specs.Model.{sheet_of}
use Rattle.records.specs.declared.load.Loading.{Loading}
use Rattle.records_fault.specs.declared.fault.LoadFault.{LoadFault}
use Rattle.records.specs.Fields.{map_ok}
use Rattle.records.specs.Entries.{Said}
use Rattle.records.specs.Loads.{State, added, state_of}

-- the names of the events so far
abbrev pub names_in : {R : Type 0} {G : Ghosts R} → Loading R G → List (List ℕ)
names_in l = (sheet_of l.sheet.now).names

-- what the lines so far have made
abbrev pub state_in : {R : Type 0} {G : Ghosts R} → Loading R G → State
state_in l = state_of (sheet_of l.sheet.now) l.slots.now l.used

-- what the line that is read comes to, where it says this
abbrev pub adding : {R : Type 0} {G : Ghosts R} → Loading R G → Said → Result State LoadFault
adding {G = G} l said = added (G.admitted l.sheet.now.rules) (length l.slots.now) l.line (state_in l) said

-- what no line changes: which sheet and which slots are filled, the rules, and how many slots there are
pub record KeepsPlace {R : Type 0} {G : Ghosts R} (before after : Loading R G) : Type 0 where
  pub sheet : after.sheet.ghost_name ≡ before.sheet.ghost_name
  pub slots : after.slots.ghost_name ≡ before.slots.ghost_name
  pub rules : after.sheet.now.rules ≡ before.sheet.now.rules
  pub room : length after.slots.now ≡ length before.slots.now

-- a line, or a text, came to this, and changed nothing else but which line is read
pub record Adds {R : Type 0} {G : Ghosts R} (comes : Result State LoadFault) (result : Result (Unit {0}) LoadFault) (before after : Loading R G) : Type 0 where
  pub adds : map_ok (λ _. state_in after) result ≡ comes
  pub same : KeepsPlace before after

-- a part of the line that is read came to what it says, and changed nothing else
pub record AddsSaid {R : Type 0} {G : Ghosts R} (said : Said) (result : Result (Unit {0}) LoadFault) (before after : Loading R G) : Type 0 where
  pub adds : map_ok (λ _. state_in after) result ≡ adding before said
  pub same : KeepsPlace before after
  pub line : after.line ≡ before.line
