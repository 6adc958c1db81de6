-- What the refusal of a node is as that of its record, and that of a record as a fault of the sheet file.
use Rattle.std.specs.Prelude.{ℕ}
use Rattle.entries.specs.declared.fault.SheetFault.{SheetFault}
use Rattle.entries.specs.declared.fault.SheetFault.TheVariants as f
use Rattle.entries.specs.declared.fault.Rule.TheVariants as r
use Rattle.terms.specs.declared.node.NodeFault.{NodeFault}
use Rattle.terms.specs.declared.node.NodeFault.TheVariants as n
use Rattle.sheet.specs.declared.refusal.Refusal.{Refusal}
use Rattle.sheet.specs.declared.refusal.Refusal.TheVariants.{Broken, NoMemory}

abbrev pub at : Refusal → ℕ → SheetFault
at (Broken q) k = f.Refused q k
at NoMemory k = f.NoMemory

-- a node that its table does not take is a bad node
abbrev pub of_node : NodeFault → Refusal
of_node n.Reference = Broken r.Node
of_node n.Variable = Broken r.Node
of_node n.NoMemory = NoMemory
