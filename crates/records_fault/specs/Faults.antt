-- The number and place of each fault; its layer goes by its number.
use Rattle.std.specs.Prelude.{ℕ}
use Rattle.text.specs.declared.fault.Place.{Place}
use Rattle.text.specs.Faults.{on_line, text_number, text_place}
use Rattle.records_fault.specs.declared.fault.RecordFault.{RecordFault}
use Rattle.records_fault.specs.declared.fault.RecordFault.TheVariants.{Text, UnknownWord, FieldCount, MalformedName, BadNumeral, LowAboveHigh}
use Rattle.records_fault.specs.declared.fault.LoadFault.{LoadFault}
use Rattle.records_fault.specs.declared.fault.LoadFault.TheVariants.{Record, NameTaken, NoSuchEvent, TooManyEvents, TooManyBounds, NotAdmitted, NoSlot}
use Rattle.records_fault.specs.declared.fault.WriteRefusal.{WriteRefusal}
use Rattle.records_fault.specs.declared.fault.WriteRefusal.TheVariants.{TooFewBytes}

abbrev pub record_number : RecordFault → ℕ
record_number (Text fault) = text_number fault
record_number (UnknownWord line) = 4
record_number (FieldCount line) = 5
record_number (MalformedName place) = 6
record_number (BadNumeral place) = 7
record_number (LowAboveHigh line) = 8

abbrev pub load_number : LoadFault → ℕ
load_number (Record fault) = record_number fault
load_number (NameTaken place) = 9
load_number (NoSuchEvent place) = 10
load_number (TooManyEvents line) = 11
load_number (TooManyBounds line) = 12
load_number (NotAdmitted line) = 13
load_number (NoSlot line) = 16

abbrev pub write_number : WriteRefusal → ℕ
write_number TooFewBytes = 19

abbrev pub record_place : RecordFault → Place
record_place (Text fault) = text_place fault
record_place (UnknownWord line) = on_line line
record_place (FieldCount line) = on_line line
record_place (MalformedName place) = place
record_place (BadNumeral place) = place
record_place (LowAboveHigh line) = on_line line

abbrev pub load_place : LoadFault → Place
load_place (Record fault) = record_place fault
load_place (NameTaken place) = place
load_place (NoSuchEvent place) = place
load_place (TooManyEvents line) = on_line line
load_place (TooManyBounds line) = on_line line
load_place (NotAdmitted line) = on_line line
load_place (NoSlot line) = on_line line
