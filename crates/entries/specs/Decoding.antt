-- What records, and the numbers in them, are taken for.
use Rattle.std.specs.Prelude.{◌≡◌, Ok, Err, Result}
use Rattle.records.specs.Bytes.{Rec}
use Rattle.terms.specs.declared.node.Node.{Node}
use Rattle.protocol.specs.declared.step.Step.{Step}
use Rattle.protocol.specs.declared.step.Direction.{Direction}
use Rattle.protocol.specs.declared.step.Action.{Action}
use Rattle.protocol.specs.declared.step.Property.{Property}
use Rattle.entries.specs.declared.entry.Fields.{Fields}
use Rattle.entries.specs.declared.entry.PropertyFields.{PropertyFields}
use Rattle.entries.specs.declared.entry.Unknown.{Unknown}
use Rattle.entries.specs.declared.entry.Entry as code
use Rattle.entries.specs.declared.entry.Entry.TheVariants as c
use Rattle.entries.specs.Format.{Entry, label, name, variable, node, strand, step, property, rec, node_entry, step_entry, direction_code, property_entry}

-- the entry of the numbers of a property
abbrev pub property_of : PropertyFields → Entry
property_of p = property p.earlier.kind p.earlier.a p.earlier.b p.later.kind p.later.a p.later.b

-- the entry that a decoded record says
abbrev pub entry_of : code.Entry → Entry
entry_of (c.Label t) = label t.now
entry_of (c.Name t) = name t.now
entry_of (c.Variable t) = variable t.now
entry_of (c.Node f) = node f.kind f.a f.b
entry_of c.Strand = strand
entry_of (c.Step f) = step f.kind f.a f.b
entry_of (c.Property p) = property_of p

-- the entry of a record, or that it is the record of no entry
abbrev pub Decoded : Rec → Result code.Entry Unknown → Type 0
Decoded x (Err u) = (e : Entry) → ¬ (rec e ≡ x)
Decoded x (Ok d) = rec (entry_of d) ≡ x

-- the node with these fields, or that there is none
abbrev pub NodeDecoded : Fields → Result Node Unknown → Type 0
NodeDecoded f (Err u) = (n : Node) → ¬ (node_entry n ≡ node f.kind f.a f.b)
NodeDecoded f (Ok n) = node_entry n ≡ node f.kind f.a f.b

-- the step with these fields, or that there is none
abbrev pub StepDecoded : Fields → Result Step Unknown → Type 0
StepDecoded f (Err u) = (p : Step) → ¬ (step_entry p ≡ step f.kind f.a f.b)
StepDecoded f (Ok p) = step_entry p ≡ step f.kind f.a f.b

-- the action with these fields, or that there is none
abbrev pub ActionDecoded : Fields → Result Action Unknown → Type 0
ActionDecoded f (Err u) = (d : Direction) → ¬ (direction_code d ≡ f.kind)
ActionDecoded f (Ok a) = (direction_code a.direction ≡ f.kind) × (a.label.0 ≡ f.a) × (a.node.0 ≡ f.b)

-- the property with these fields, or that there is none
abbrev pub PropertyDecoded : PropertyFields → Result Property Unknown → Type 0
PropertyDecoded f (Err u) = (t : Property) → ¬ (property_entry t ≡ property_of f)
PropertyDecoded f (Ok t) = property_entry t ≡ property_of f
