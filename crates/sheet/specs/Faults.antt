-- The number and place of each refusal.
use Rattle.std.specs.Prelude.{ℕ}
use Rattle.text.specs.declared.fault.Place.{Place}
use Rattle.text.specs.Faults.{on_line}
use Rattle.sheet.specs.declared.fault.CallFault.{CallFault}
use Rattle.sheet.specs.declared.fault.CallFault.TheVariants.{MalformedName, NameTaken, NoSuchEvent, TooManyEvents, TooManyBounds, NotAdmitted, DelayOutOfRange}
use Rattle.sheet.specs.declared.fault.Refusal.{Refusal}
use Rattle.sheet.specs.declared.fault.Refusal.TheVariants.{NoSuchSource, NoSuchEvent as NoEventToRead, NoSuchBound, Contradictory, NotContradictory}

abbrev pub call_number : CallFault → ℕ
call_number MalformedName = 6
call_number NameTaken = 9
call_number NoSuchEvent = 10
call_number TooManyEvents = 11
call_number TooManyBounds = 12
call_number NotAdmitted = 13
call_number DelayOutOfRange = 14

abbrev pub refusal_number : Refusal → ℕ
refusal_number NoSuchSource = 10
refusal_number NoEventToRead = 10
refusal_number NoSuchBound = 15
refusal_number Contradictory = 17
refusal_number NotContradictory = 18

-- no line and no field
abbrev pub nowhere : Place
nowhere = on_line 0
