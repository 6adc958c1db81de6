-- What a sheet holds, and when that is lawful.
use Rattle.std.specs.Prelude.{◌≡◌, ℕ, ◌<◌, ◌≤◌, List, [], length, Some, None, Option, slice_index_or}
use Rattle.std.specs.List.{AllByRecursion}
use Rattle.terms.specs.Terms.{Occurs, Vars}
use Rattle.terms.specs.Nodes.{node, term}
use Rattle.terms.specs.declared.node.Node.{Node}
use Rattle.terms.specs.declared.node.Node.TheVariants.{Name, Env, Var, Pair, Seal}
use Rattle.protocol.specs.declared.step.Step.{Step}
use Rattle.protocol.specs.declared.step.Step.TheVariants.{Input, Output, Open, Split, Same}
use Rattle.protocol.specs.declared.step.Action.{Action}
use Rattle.protocol.specs.declared.step.Property.{Property}
use Rattle.protocol.specs.Strands.{At, Binds, Uses, BoundBefore, Bound, step_of}

-- the tables of a sheet; while a file is read the property may still be to come
pub record Content : Type 0 where
  pub labels : List (List ℕ)
  pub names : List (List ℕ)
  pub variables : List (List ℕ)
  pub nodes : List Node
  pub strands : List (List Step)
  pub property : Option Property

-- a text: 1 to 16 bytes, each printable and no space
abbrev pub Text : List ℕ → Type 0
Text t = (1 ≤ length t) × (length t ≤ 16) × AllByRecursion (λ b. (33 ≤ b) × (b ≤ 126)) t

-- a local name or a variable
abbrev pub IsAtom : Node → Type 0
IsAtom (Name n) = Unit {0}
IsAtom (Env e) = ⊥
IsAtom (Var x) = Unit {0}
IsAtom (Pair a b) = ⊥
IsAtom (Seal b k) = ⊥

-- the node may stand at number i: declared names and variables, smaller references, atomic keys
abbrev pub NodeLaw : Content → ℕ → Node → Type 0
NodeLaw C i (Name n) = n.0 < length C.names
NodeLaw C i (Env e) = ⊥
NodeLaw C i (Var x) = x.0 < length C.variables
NodeLaw C i (Pair a b) = (a.0 < i) × (b.0 < i)
NodeLaw C i (Seal b k) = (b.0 < i) × (k.0 < i) × IsAtom (node C.nodes k.0)

abbrev pub IsVar : Node → Type 0
IsVar (Name n) = ⊥
IsVar (Env e) = ⊥
IsVar (Var x) = Unit {0}
IsVar (Pair a b) = ⊥
IsVar (Seal b k) = ⊥

abbrev pub Apart : Node → Node → Type 0
Apart (Var x) (Var y) = x.0 ≡ y.0 → ⊥
Apart (Var x) (Name m) = ⊥
Apart (Var x) (Env m) = ⊥
Apart (Var x) (Pair c d) = ⊥
Apart (Var x) (Seal c d) = ⊥
Apart (Name n) m = ⊥
Apart (Env e) m = ⊥
Apart (Pair a b) m = ⊥
Apart (Seal a b) m = ⊥

-- the pattern of an open: sealed, and its body is a variable
abbrev pub OpenPattern : List Node → Node → Type 0
OpenPattern ns (Name n) = ⊥
OpenPattern ns (Env e) = ⊥
OpenPattern ns (Var x) = ⊥
OpenPattern ns (Pair a b) = ⊥
OpenPattern ns (Seal b k) = IsVar (node ns b.0)

-- the pattern of a split: a pair of two different variables
abbrev pub SplitPattern : List Node → Node → Type 0
SplitPattern ns (Name n) = ⊥
SplitPattern ns (Env e) = ⊥
SplitPattern ns (Var x) = ⊥
SplitPattern ns (Pair a b) = Apart (node ns a.0) (node ns b.0)
SplitPattern ns (Seal b k) = ⊥

-- declared labels, variables and nodes, and patterns of the right form
abbrev pub StepLaw : Content → Step → Type 0
StepLaw C (Input l x) = (l.0 < length C.labels) × (x.0 < length C.variables)
StepLaw C (Output l n) = (l.0 < length C.labels) × (n.0 < length C.nodes)
StepLaw C (Open s p) = (s.0 < length C.nodes) × (p.0 < length C.nodes) × OpenPattern C.nodes (node C.nodes p.0)
StepLaw C (Split s p) = (s.0 < length C.nodes) × (p.0 < length C.nodes) × SplitPattern C.nodes (node C.nodes p.0)
StepLaw C (Same a b) = (a.0 < length C.nodes) × (b.0 < length C.nodes)

abbrev pub ActionLaw : Content → Action → Type 0
ActionLaw C a = (a.label.0 < length C.labels) × (a.node.0 < length C.nodes)

-- the earlier action, where there is one, has only variables of the later
abbrev pub EarlierLaw : Content → Option Action → Action → Type 0
EarlierLaw C None b = Unit {0}
EarlierLaw C (Some a) b = ActionLaw C a × Vars (λ x. Occurs x (term C.nodes b.node.0)) (term C.nodes a.node.0)

-- and no step binds a variable of the property
abbrev pub PropertyLaw : Content → Property → Type 0
PropertyLaw C p =
    ActionLaw C p.later
    × EarlierLaw C p.earlier p.later
    × Vars (λ x. ¬ Bound C.nodes C.strands x) (term C.nodes p.later.node.0)

-- a property comes after a strand
abbrev pub PropertyIn : Content → Option Property → Type 0
PropertyIn C None = Unit {0}
PropertyIn C (Some p) = (1 ≤ length C.strands) × PropertyLaw C p

-- all that a sheet has to keep, whether or not its property has come
pub record Sound (C : Content) : Type 0 where
  pub few_labels : length C.labels ≤ 32
  pub few_names : length C.names ≤ 64
  pub few_variables : length C.variables ≤ 64
  pub few_nodes : length C.nodes ≤ 256
  pub few_strands : length C.strands ≤ 8
  pub few_steps : (k : ℕ) → length (slice_index_or C.strands k []) ≤ 16
  pub label_texts : AllByRecursion Text C.labels
  pub name_texts : AllByRecursion Text C.names
  pub variable_texts : AllByRecursion Text C.variables
  pub nodes_stand : (i : ℕ) → i < length C.nodes → NodeLaw C i (node C.nodes i)
  pub steps_stand : (k i : ℕ) (p : Step) → At C.strands k i p → StepLaw C p
  -- at most one step of the sheet binds a given variable
  pub bound_once : (k j i m : ℕ) (p q : Step) (x : ℕ) → At C.strands k i p → At C.strands j m q → Binds x (step_of C.nodes p) → Binds x (step_of C.nodes q) → (k ≡ j) × (i ≡ m)
  -- every other variable of a step was bound by an earlier step of its strand
  pub bound_before : (k i : ℕ) (p : Step) → At C.strands k i p → Uses (BoundBefore C.nodes C.strands k i) (step_of C.nodes p)
  pub property_stands : PropertyIn C C.property

-- a lawful sheet: sound, with a property
pub record Lawful (C : Content) : Type 0 where
  pub sound : Sound C
  pub has_property : (p : Property) × (C.property ≡ Some p)
