-- What an entry of a sheet file has to keep, given the content of the entries before it.
use Rattle.std.specs.Prelude.{◌≡◌, ℕ, ◌-◌, ◌<◌, ◌≤◌, List, [], length, None, slice_index_or}
use Rattle.records.specs.Bytes.{Rec}
use Rattle.terms.specs.declared.node.Node.{Node}
use Rattle.protocol.specs.declared.step.Step.{Step}
use Rattle.protocol.specs.declared.step.Property.{Property}
use Rattle.protocol.specs.Strands.{Binds, Uses, BoundBefore, Bound, step_of}
use Rattle.protocol.specs.Lawful.{Content, Text, NodeLaw, StepLaw, PropertyLaw}
use Rattle.entries.specs.declared.fault.Rule.{Rule}
use Rattle.entries.specs.declared.fault.Rule.TheVariants as r
use Rattle.entries.specs.Faults.{number}
use Rattle.entries.specs.Format.{Entry, label, name, variable, node, strand, step, property, rec, node_entry, step_entry, property_entry}

-- labels, names, variables and nodes come in this order, then strands with their steps, then the property
abbrev pub InOrder : Content → Entry → Type 0
InOrder C (label t) = (C.names ≡ []) × (C.variables ≡ []) × (C.nodes ≡ []) × (C.strands ≡ []) × (C.property ≡ None)
InOrder C (name t) = (C.variables ≡ []) × (C.nodes ≡ []) × (C.strands ≡ []) × (C.property ≡ None)
InOrder C (variable t) = (C.nodes ≡ []) × (C.strands ≡ []) × (C.property ≡ None)
InOrder C (node k a b) = (C.strands ≡ []) × (C.property ≡ None)
InOrder C strand = C.property ≡ None
InOrder C (step k a b) = (1 ≤ length C.strands) × (C.property ≡ None)
InOrder C (property p q s u v w) = (1 ≤ length C.strands) × (C.property ≡ None)

-- the number of the latest strand
abbrev pub latest : Content → ℕ
latest C = length C.strands - 1

-- the steps of the latest strand
abbrev pub latest_steps : Content → List Step
latest_steps C = slice_index_or C.strands (latest C) []

-- at most 32 labels, 64 names, 64 variables, 256 nodes, 8 strands and 16 steps of a strand
abbrev pub HasRoom : Content → Entry → Type 0
HasRoom C (label t) = length C.labels < 32
HasRoom C (name t) = length C.names < 64
HasRoom C (variable t) = length C.variables < 64
HasRoom C (node k a b) = length C.nodes < 256
HasRoom C strand = length C.strands < 8
HasRoom C (step k a b) = length (latest_steps C) < 16
HasRoom C (property p q s u v w) = Unit {0}

abbrev pub GoodText : Entry → Type 0
GoodText (label t) = Text t
GoodText (name t) = Text t
GoodText (variable t) = Text t
GoodText (node k a b) = Unit {0}
GoodText strand = Unit {0}
GoodText (step k a b) = Unit {0}
GoodText (property p q s u v w) = Unit {0}

-- the fields are those of a node that may stand next
abbrev pub GoodNode : Content → Entry → Type 0
GoodNode C (label t) = Unit {0}
GoodNode C (name t) = Unit {0}
GoodNode C (variable t) = Unit {0}
GoodNode C (node k a b) = (n : Node) × (node_entry n ≡ node k a b) × NodeLaw C (length C.nodes) n
GoodNode C strand = Unit {0}
GoodNode C (step k a b) = Unit {0}
GoodNode C (property p q s u v w) = Unit {0}

-- the fields are those of a step over what is declared, with patterns of the right form
abbrev pub GoodStep : Content → Entry → Type 0
GoodStep C (label t) = Unit {0}
GoodStep C (name t) = Unit {0}
GoodStep C (variable t) = Unit {0}
GoodStep C (node k a b) = Unit {0}
GoodStep C strand = Unit {0}
GoodStep C (step k a b) = (p : Step) × (step_entry p ≡ step k a b) × StepLaw C p
GoodStep C (property p q s u v w) = Unit {0}

-- the step binds only variables that no step binds, and uses only those that its strand has bound
abbrev pub GoodVariables : Content → Entry → Type 0
GoodVariables C (label t) = Unit {0}
GoodVariables C (name t) = Unit {0}
GoodVariables C (variable t) = Unit {0}
GoodVariables C (node k a b) = Unit {0}
GoodVariables C strand = Unit {0}
GoodVariables C (step k a b) =
    (p : Step) → step_entry p ≡ step k a b →
    ((x : ℕ) → Binds x (step_of C.nodes p) → ¬ Bound C.nodes C.strands x)
    × Uses (BoundBefore C.nodes C.strands (latest C) (length (latest_steps C))) (step_of C.nodes p)
GoodVariables C (property p q s u v w) = Unit {0}

-- the fields are those of a lawful property
abbrev pub GoodProperty : Content → Entry → Type 0
GoodProperty C (label t) = Unit {0}
GoodProperty C (name t) = Unit {0}
GoodProperty C (variable t) = Unit {0}
GoodProperty C (node k a b) = Unit {0}
GoodProperty C strand = Unit {0}
GoodProperty C (step k a b) = Unit {0}
GoodProperty C (property p q s u v w) = (t : Property) × (property_entry t ≡ property p q s u v w) × PropertyLaw C t

-- the entry keeps the rule
abbrev pub Keeps : Rule → Content → Entry → Type 0
Keeps r.Whole C e = Unit {0}
Keeps r.Kind C e = InOrder C e
Keeps r.Limit C e = HasRoom C e
Keeps r.Text C e = GoodText e
Keeps r.Node C e = GoodNode C e
Keeps r.Step C e = GoodStep C e
Keeps r.Variable C e = GoodVariables C e
Keeps r.Property C e = GoodProperty C e
Keeps r.Ended C e = Unit {0}

-- the entry keeps every rule with a smaller number than k
abbrev pub KeepsBelow : ℕ → Content → Entry → Type 0
KeepsBelow k C e = (q : Rule) → number q < k → Keeps q C e

-- the record is an entry that keeps the rules before this one, and not this one
abbrev pub FirstBroken : Rule → Content → Rec → Type 0
FirstBroken q C x = (e : Entry) × (rec e ≡ x) × KeepsBelow (number q) C e × ¬ Keeps q C e

-- the rule is the first that a whole record breaks; one that is no entry at all breaks the rule of kinds
abbrev pub Breaks : Rule → Content → Rec → Type 0
Breaks r.Whole C x = ⊥
Breaks r.Kind C x = (e : Entry) → rec e ≡ x → ¬ InOrder C e
Breaks r.Limit C x = FirstBroken r.Limit C x
Breaks r.Text C x = FirstBroken r.Text C x
Breaks r.Node C x = FirstBroken r.Node C x
Breaks r.Step C x = FirstBroken r.Step C x
Breaks r.Variable C x = FirstBroken r.Variable C x
Breaks r.Property C x = FirstBroken r.Property C x
Breaks r.Ended C x = ⊥
