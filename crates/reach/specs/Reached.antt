-- What is told of the parts that taking apart reaches.
use Rattle.std.specs.Prelude.{◌≡◌, ℕ, ◌<◌, ◌≤◌, Bool, true, List, map, length, Some, None, Option, Decides, get_or}
use Rattle.terms.specs.Terms.{Term, name, var, seal}
use Rattle.terms.specs.Bits.{In}
use Rattle.terms.specs.Nodes.{node}
use Rattle.terms.specs.Sets.{bits}
use Rattle.terms.specs.declared.node.Node.{Node}
use Rattle.terms.specs.declared.number.NodeNo.{NodeNo}
use Rattle.lifting.specs.Lift.{Analz}
use Rattle.unification.specs.Bindings.{val, Unbound}
use Rattle.unification.specs.declared.binding.Binding.{Binding}
use Rattle.matching.specs.Matchings.{MostGeneral}
use Rattle.reach.specs.Numbers.{has}
use Rattle.reach.specs.Parts.{SealNode}
use Rattle.reach.specs.Steps.{Values}
use Rattle.reach.specs.declared.reached.Reach.{Reach}

-- whether the local name, the node as a seal, is in it
abbrev pub name_in : Reach → ℕ → Bool
name_in r a = has r.names a

abbrev pub seal_in : Reach → ℕ → Bool
seal_in r i = has r.seals i

-- its set of variables
abbrev pub variables_in : Reach → ℕ
variables_in r = bits r.variables

-- the terms of the nodes, with the values of their variables
abbrev pub valued : List Node → (ℕ → Term) → List NodeNo → List Term
valued ns θ hs = map (λ h. val ns θ h.0) hs

-- what taking S apart reaches: its names and unbound variables, and its seals, each as some node of the table
pub record Reached (ns : List Node) (B : List Binding) (θ : ℕ → Term) (S : List Term) (r : Reach) : Type 0 where
  pub names : (a : ℕ) → Decides (name_in r a) (Analz S (name a))
  pub variables : (x : ℕ) → (In x (variables_in r) → Unbound B x × Analz S (var x)) × (Unbound B x → Analz S (var x) → In x (variables_in r))
  pub sound : (i : ℕ) → seal_in r i ≡ true → (i < length ns) × SealNode (node ns i) × Analz S (val ns θ i)
  pub complete : (m u : Term) → Analz S (seal m u) → (i : ℕ) × (seal_in r i ≡ true) × (val ns θ i ≡ seal m u)

-- the heads are nodes of the table, and this is what they come apart into under bindings as matching gives them; or some head is
-- no node
abbrev pub Told : List Node → List Binding → List NodeNo → Option Reach → Type 0
Told ns B hs None = (k : ℕ) × (k < length hs) × (length ns ≤ (get_or hs k (record { 0 = 0 })).0)
Told ns B hs (Some r) =
    ((k : ℕ) → k < length hs → (get_or hs k (record { 0 = 0 })).0 < length ns) × (MostGeneral ns B → (θ : ℕ → Term) → Values ns B θ → Reached ns B θ (valued ns θ hs) r)
