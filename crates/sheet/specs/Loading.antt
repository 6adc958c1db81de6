-- What reading a file into a sheet answers, and what the sheet then holds.
use Rattle.std.specs.Prelude.{◌≡◌, ℕ, List, Ok, Err, Result}
use Rattle.protocol.specs.Lawful.{Content}
use Rattle.entries.specs.declared.fault.SheetFault.{SheetFault}
use Rattle.entries.specs.declared.fault.SheetFault.TheVariants.{Refused, NoMemory}
use Rattle.entries.specs.Reading.{taken, refused, Reads}
use Rattle.sheet.specs.declared.tables.Tables.{Tables}
use Rattle.sheet.specs.View.{content}

-- what a sheet holds before and after a file is read into it
abbrev pub ReadInto : Content → List ℕ → Result (Unit {0}) SheetFault → Content → Type 0
ReadInto B bs (Ok u) A = Reads bs (taken A)
ReadInto B bs (Err (Refused q k)) A = Reads bs (refused q k) × (A ≡ B)
ReadInto B bs (Err NoMemory) A = A ≡ B

-- the tables that a file is read as, or its refusal
abbrev pub Drafted : List ℕ → Result Tables SheetFault → Type 0
Drafted bs (Ok t) = Reads bs (taken (content t))
Drafted bs (Err (Refused q k)) = Reads bs (refused q k)
Drafted bs (Err NoMemory) = Unit {0}
