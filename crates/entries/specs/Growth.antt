-- The content of a sheet file with one entry more.
use Rattle.std.specs.Prelude.{◌≡◌, ℕ, List, [], ◌∷◌, ◌++◌, Some, None, slice_set}
use Rattle.terms.specs.declared.node.Node.{Node}
use Rattle.protocol.specs.declared.step.Step.{Step}
use Rattle.protocol.specs.declared.step.Property.{Property}
use Rattle.protocol.specs.Lawful.{Content}
use Rattle.entries.specs.Format.{Entry, label, name, variable, node, strand, step, property, node_entry, step_entry, property_entry}
use Rattle.entries.specs.Rules.{latest, latest_steps}

-- the content before the first entry
abbrev pub nothing : Content
nothing = record { labels = []; names = []; variables = []; nodes = []; strands = []; property = None }

abbrev pub with_label : Content → List ℕ → Content
with_label C t = record { labels = C.labels ++ (t ∷ []); names = C.names; variables = C.variables; nodes = C.nodes; strands = C.strands; property = C.property }

abbrev pub with_name : Content → List ℕ → Content
with_name C t = record { labels = C.labels; names = C.names ++ (t ∷ []); variables = C.variables; nodes = C.nodes; strands = C.strands; property = C.property }

abbrev pub with_variable : Content → List ℕ → Content
with_variable C t = record { labels = C.labels; names = C.names; variables = C.variables ++ (t ∷ []); nodes = C.nodes; strands = C.strands; property = C.property }

abbrev pub with_node : Content → Node → Content
with_node C n = record { labels = C.labels; names = C.names; variables = C.variables; nodes = C.nodes ++ (n ∷ []); strands = C.strands; property = C.property }

abbrev pub with_strand : Content → Content
with_strand C = record { labels = C.labels; names = C.names; variables = C.variables; nodes = C.nodes; strands = C.strands ++ ([] ∷ []); property = C.property }

-- one step more in the latest strand
abbrev pub with_step : Content → Step → Content
with_step C p = record { labels = C.labels; names = C.names; variables = C.variables; nodes = C.nodes; strands = slice_set C.strands (latest C) (latest_steps C ++ (p ∷ [])); property = C.property }

abbrev pub with_property : Content → Property → Content
with_property C t = record { labels = C.labels; names = C.names; variables = C.variables; nodes = C.nodes; strands = C.strands; property = Some t }

-- D is C with the entry
abbrev pub Adds : Content → Entry → Content → Type 0
Adds C (label t) D = D ≡ with_label C t
Adds C (name t) D = D ≡ with_name C t
Adds C (variable t) D = D ≡ with_variable C t
Adds C (node k a b) D = (n : Node) × (node_entry n ≡ node k a b) × (D ≡ with_node C n)
Adds C strand D = D ≡ with_strand C
Adds C (step k a b) D = (p : Step) × (step_entry p ≡ step k a b) × (D ≡ with_step C p)
Adds C (property p q s u v w) D = (t : Property) × (property_entry t ≡ property p q s u v w) × (D ≡ with_property C t)
