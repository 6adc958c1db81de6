-- What the checks of a node, a step and a property answer.
use Rattle.std.specs.Prelude.{◌≡◌, ℕ, ◌<◌, ◌⊎◌, List, length, Some, None, Option}
use Rattle.terms.specs.Terms.{Occurs}
use Rattle.terms.specs.Bits.{In}
use Rattle.terms.specs.Nodes.{node, term}
use Rattle.terms.specs.declared.node.Node.{Node}
use Rattle.terms.specs.declared.node.Node.TheVariants.{Name, Env, Var, Pair, Seal}
use Rattle.terms.specs.declared.number.NodeNo.{NodeNo}
use Rattle.terms.specs.declared.variables.VarSet.{VarSet}
use Rattle.terms.specs.Sets.{bits}
use Rattle.protocol.specs.declared.step.Step.{Step}
use Rattle.protocol.specs.declared.step.Action.{Action}
use Rattle.protocol.specs.Strands.{TermStep, input, output, opens, splits, same, Binds, step_of}
use Rattle.protocol.specs.Lawful.{Content, IsAtom, IsVar, OpenPattern, StepLaw, ActionLaw}
use Rattle.sheet.specs.declared.tables.Shape.{Shape}

-- declared names and variables and atomic keys, whatever the references
abbrev pub Declared : Content → Node → Type 0
Declared C (Name n) = n.0 < length C.names
Declared C (Env e) = ⊥
Declared C (Var x) = x.0 < length C.variables
Declared C (Pair a b) = Unit {0}
Declared C (Seal b k) = (k.0 < length C.nodes) × IsAtom (node C.nodes k.0)

-- the variable stands in the step, where the step does not bind it
abbrev pub Mentions : ℕ → TermStep → Type 0
Mentions x (input l y) = ⊥
Mentions x (output l t) = Occurs x t
Mentions x (opens s y k) = Occurs x s ⊎ Occurs x k
Mentions x (splits s y z) = Occurs x s
Mentions x (same s t) = Occurs x s ⊎ Occurs x t

-- the set has just the variables with P
abbrev pub Just : (ℕ → Type 0) → VarSet → Type 0
Just P s = (x : ℕ) → (In x (bits s) → P x) × (P x → In x (bits s))

-- the variables of a lawful step, or none where it is unlawful
abbrev pub Shaped : Content → Step → Option Shape → Type 0
Shaped C p None = ¬ StepLaw C p
Shaped C p (Some s) = StepLaw C p × Just (λ x. Binds x (step_of C.nodes p)) s.binds × Just (λ x. Mentions x (step_of C.nodes p)) s.uses

-- the body and the key of the pattern of an open, or none where the node is no such pattern
abbrev pub SealedVariable : List Node → ℕ → Option (NodeNo × NodeNo) → Type 0
SealedVariable ns i None = ¬ ((i < length ns) × OpenPattern ns (node ns i))
SealedVariable ns i (Some c) = (i < length ns) × (node ns i ≡ Seal c.0 c.1) × IsVar (node ns c.0.0) × (c.0.0 < length ns)

-- the variables of a lawful action, or none where it is unlawful
abbrev pub Acted : Content → Action → Option VarSet → Type 0
Acted C a None = ¬ ActionLaw C a
Acted C a (Some s) = ActionLaw C a × Just (λ x. Occurs x (term C.nodes a.node.0)) s
