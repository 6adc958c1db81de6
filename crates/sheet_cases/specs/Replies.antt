-- What a reply says.
use Rattle.std.specs.Prelude.{◌≡◌, ℕ, List, Ok, Err, Result}
use Rattle.protocol.specs.Lawful.{Content}
use Rattle.entries.specs.declared.fault.Rule.{Rule}
use Rattle.entries.specs.declared.fault.SheetFault.{SheetFault}
use Rattle.entries.specs.declared.fault.SheetFault.TheVariants as fault
use Rattle.entries.specs.Faults.{number}
use Rattle.entries.specs.Reading as reading
use Rattle.sheet_cases.specs.declared.reply.Refused.{Refused}

-- a file is taken, or refused by a number, at a record
abbrev pub Reply : Type 0
Reply = Result (Unit {0}) Refused

-- the reply to what reading gave
abbrev pub Told : Result (Unit {0}) SheetFault → Reply → Type 0
Told (Ok u) p = p ≡ Ok u
Told (Err (fault.Refused q k)) p = p ≡ Err (record { number = number q; «record» = k })
Told (Err fault.NoMemory) p = ⊥

-- a file is taken as some sheet, or is refused by the rule with this number, at this record
abbrev pub Answers : List ℕ → Reply → Type 0
Answers bs (Ok u) = (C : Content) × reading.Reads bs (reading.taken C)
Answers bs (Err r) = (q : Rule) × (number q ≡ r.number) × reading.Reads bs (reading.refused q r.«record»)
