-- The number and the record of a fault, and what a fault of the file is as a fault of the sheet.
use Rattle.records.specs.declared.record.FileFault.{FileFault}
use Rattle.records.specs.declared.record.FileFault.TheVariants.{Cut}
use Rattle.std.specs.Prelude.{ℕ, Some, None, Option}
use Rattle.entries.specs.declared.fault.Rule.{Rule}
use Rattle.entries.specs.declared.fault.Rule.TheVariants as r
use Rattle.entries.specs.declared.fault.SheetFault.{SheetFault}
use Rattle.entries.specs.declared.fault.SheetFault.TheVariants.{Refused, NoMemory}

abbrev pub of_file : FileFault → SheetFault
of_file (Cut k) = Refused r.Whole k

-- the number of a rule: that of the refusal where it is broken
abbrev pub number : Rule → ℕ
number r.Whole = 1
number r.Kind = 2
number r.Limit = 3
number r.Text = 4
number r.Node = 5
number r.Step = 6
number r.Variable = 7
number r.Property = 8
number r.Ended = 9

-- the number and the record of a fault; want of memory has none
abbrev pub fault_number : SheetFault → Option ℕ
fault_number (Refused q k) = Some (number q)
fault_number NoMemory = None

abbrev pub fault_record : SheetFault → Option ℕ
fault_record (Refused q k) = Some k
fault_record NoMemory = None
