-- What the sheet answers to a bound among its events, as a fault of the line that adds it.
use Rattle.std.specs.Prelude.{ℕ, Ok, Err, Result}
use Rattle.sheet.specs.declared.fault.CallFault.{CallFault}
use Rattle.sheet.specs.declared.fault.CallFault.TheVariants.{MalformedName, NameTaken, NoSuchEvent, TooManyEvents, TooManyBounds, NotAdmitted, DelayOutOfRange}
use Rattle.records_fault.specs.declared.fault.LoadFault.{LoadFault}
use Rattle.records_fault.specs.declared.fault.LoadFault.TheVariants.{TooManyBounds as noRoom, NotAdmitted as noRule}

-- of such a bound only two refusals are left: the rule, and the number of bounds
abbrev pub at_line : ℕ → Result ℕ CallFault → Result (Unit {0}) LoadFault
at_line n (Ok number) = Ok tt
at_line n (Err MalformedName) = Err (noRoom n)
at_line n (Err NameTaken) = Err (noRoom n)
at_line n (Err NoSuchEvent) = Err (noRoom n)
at_line n (Err TooManyEvents) = Err (noRoom n)
at_line n (Err TooManyBounds) = Err (noRoom n)
at_line n (Err NotAdmitted) = Err (noRule n)
at_line n (Err DelayOutOfRange) = Err (noRoom n)
