-- The values of a table's nodes under a substitution.
use mathlib.Core.Path.{◌≡◌, refl, ap, ◌∙◌}
use mathlib.Core.List.{List}
use Prim.Native.Nat.{ℕ, ◌<◌}
use lib.ListN.{length}
use Rattle.terms.specs.Terms.{Term, inst}
use Rattle.terms.specs.Nodes.{says, term, node, Ordered}
use Rattle.terms.specs.declared.node.Node.{Node}
use Rattle.terms.specs.declared.node.Node.TheVariants.{Name, Env, Var, Pair, Seal}
use Rattle.terms.proofs.Unfolding.{unfolds}
use Rattle.unification.specs.Bindings.{val, reads}

inst_says : (θ f : ℕ → Term) (n : Node) → inst θ (says f n) ≡ reads θ (λ i. inst θ (f i)) n
inst_says θ f (Name n) = refl
inst_says θ f (Env e) = refl
inst_says θ f (Var x) = refl
inst_says θ f (Pair l r) = refl
inst_says θ f (Seal l r) = refl

pub val_law : (ns : List Node) → Ordered ns → (θ : ℕ → Term) (i : ℕ) → i < length ns → val ns θ i ≡ reads θ (val ns θ) (node ns i)
val_law ns o θ i h = ap (inst θ) (unfolds ns o i h) ∙ inst_says θ (term ns) (node ns i)

pub val_is : (ns : List Node) → Ordered ns → (θ : ℕ → Term) (i : ℕ) → i < length ns → (n : Node) → node ns i ≡ n → val ns θ i ≡ reads θ (val ns θ) n
val_is ns o θ i h n e = val_law ns o θ i h ∙ ap (reads θ (val ns θ)) e
