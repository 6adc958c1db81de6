-- What two nodes ask of each other.
use Rattle.std.specs.Prelude.{◌≡◌, ◌⊎◌, ℕ}
use Rattle.terms.specs.Terms.{Term}
use Rattle.terms.specs.declared.node.Node.{Node}
use Rattle.terms.specs.declared.node.Node.TheVariants.{Var, Pair, Seal}
use Rattle.unification.specs.Bindings.{reads}
use Rattle.unification.specs.declared.ask.Compared.{Compared}
use Rattle.unification.specs.declared.ask.Compared.TheVariants.{Same, Clash, Left, Right, Parts}

-- what the comparison of two nodes says, for all values of their parts
abbrev pub Tells : Node → Node → Compared → Type 0
Tells m n Same = (θ v : ℕ → Term) → reads θ v m ≡ reads θ v n
Tells m n Clash = (θ v : ℕ → Term) → reads θ v m ≡ reads θ v n → ⊥
Tells m n (Left x) = (m ≡ Var x) × (n ≡ Var x → ⊥)
Tells m n (Right y) = (n ≡ Var y) × (m ≡ Var y → ⊥)
Tells m n (Parts s t) = ((m ≡ Pair s.left t.left) × (n ≡ Pair s.right t.right)) ⊎ ((m ≡ Seal s.left t.left) × (n ≡ Seal s.right t.right))
