-- The file of a sheet: its entries in their order, each as a record.
use Rattle.std.specs.Prelude.{ℕ, List, [], ◌∷◌, ◌++◌, map, Some, None, Option}
use Rattle.std.specs.List.{flat_map}
use Rattle.records.specs.Bytes.{Rec, word, encode_all}
use Rattle.terms.specs.declared.node.Node.{Node}
use Rattle.terms.specs.declared.node.Node.TheVariants as n
use Rattle.protocol.specs.declared.step.Step.{Step}
use Rattle.protocol.specs.declared.step.Step.TheVariants as s
use Rattle.protocol.specs.declared.step.Direction.{Direction}
use Rattle.protocol.specs.declared.step.Direction.TheVariants as d
use Rattle.protocol.specs.declared.step.Action.{Action}
use Rattle.protocol.specs.declared.step.Property.{Property}
use Rattle.protocol.specs.Lawful.{Content}

-- an entry of the file, with its fields as numbers: a node and a step have a kind, a and b;
-- a property has direction, label and node of the earlier action and then of the later
pub data Entry : Type 0 where
  label name variable : List ℕ → Entry
  node : ℕ → ℕ → ℕ → Entry
  strand : Entry
  step : ℕ → ℕ → ℕ → Entry
  property : ℕ → ℕ → ℕ → ℕ → ℕ → ℕ → Entry

-- the record of an entry
abbrev pub rec : Entry → Rec
rec (label t) = record { kind = 1; body = t }
rec (name t) = record { kind = 2; body = t }
rec (variable t) = record { kind = 3; body = t }
rec (node k a b) = record { kind = 4; body = word k ++ (word a ++ word b) }
rec strand = record { kind = 5; body = [] }
rec (step k a b) = record { kind = 6; body = word k ++ (word a ++ word b) }
rec (property p q r u v w) = record { kind = 7; body = word p ++ (word q ++ (word r ++ (word u ++ (word v ++ word w)))) }

-- the entry of a node
abbrev pub node_entry : Node → Entry
node_entry (n.Name a) = node 1 a.0 0
node_entry (n.Var a) = node 2 a.0 0
node_entry (n.Pair a b) = node 3 a.0 b.0
node_entry (n.Seal a b) = node 4 a.0 b.0
node_entry (n.Env a) = node 5 a.0 0

-- the entry of a step
abbrev pub step_entry : Step → Entry
step_entry (s.Input l x) = step 1 l.0 x.0
step_entry (s.Output l a) = step 2 l.0 a.0
step_entry (s.Open a p) = step 3 a.0 p.0
step_entry (s.Split a p) = step 4 a.0 p.0
step_entry (s.Same a b) = step 5 a.0 b.0

abbrev pub direction_code : Direction → ℕ
direction_code d.Input = 1
direction_code d.Output = 2

-- the entry of a property: no earlier action is direction, label and node 0
abbrev pub with_earlier : Option Action → Action → Entry
with_earlier None b = property 0 0 0 (direction_code b.direction) b.label.0 b.node.0
with_earlier (Some a) b = property (direction_code a.direction) a.label.0 a.node.0 (direction_code b.direction) b.label.0 b.node.0

abbrev pub property_entry : Property → Entry
property_entry p = with_earlier p.earlier p.later

abbrev pub strand_entries : List Step → List Entry
strand_entries ps = strand ∷ map step_entry ps

abbrev pub property_entries : Option Property → List Entry
property_entries None = []
property_entries (Some p) = property_entry p ∷ []

-- the entries of a sheet, in the file's order
abbrev pub entries : Content → List Entry
entries C =
    map label C.labels
    ++ (map name C.names
    ++ (map variable C.variables
    ++ (map node_entry C.nodes
    ++ (flat_map strand_entries C.strands
    ++ property_entries C.property))))

-- the bytes of entries, and of a sheet
abbrev pub bytes : List Entry → List ℕ
bytes es = encode_all (map rec es)

abbrev pub file : Content → List ℕ
file C = bytes (entries C)
