-- An index from variables to their bindings.
use Rattle.std.specs.Prelude.{◌≡◌, List, ℕ, ◌+◌, ◌<◌, Option, Some, None, is_none, count_by, length, get_or}
use Rattle.terms.specs.declared.node.Node.{Node}
use Rattle.terms.specs.declared.node.Node.TheVariants.{Var}
use Rattle.unification.specs.Bindings.{variable_at, Unbound}
use Rattle.unification.specs.declared.binding.Binding.{Binding}

-- the index has each bound variable's place
abbrev pub Points : List Binding → List (Option ℕ) → Type 0
Points B I = (k : ℕ) → k < length B → (variable_at B k < length I) × (get_or I (variable_at B k) None ≡ Some k)

-- and nothing else: every other variable has none. So no variable is bound twice
abbrev pub Pointed : List Binding → List (Option ℕ) → Type 0
Pointed B I = (x k : ℕ) → get_or I x None ≡ Some k → (k < length B) × (variable_at B k ≡ x)

abbrev pub Indexed : List Binding → List (Option ℕ) → Type 0
Indexed B I = Points B I × Pointed B I

-- the place of the binding of a node that is a bound variable; none of any other node
abbrev pub Placed : List Binding → Node → Option ℕ → Type 0
Placed B n None = (x : ℕ) → n ≡ Var (record { 0 = x }) → Unbound B x
Placed B n (Some k) = (k < length B) × (n ≡ Var (record { 0 = variable_at B k }))

-- as many bindings as variables that are bound
abbrev pub Counted : List Binding → List (Option ℕ) → Type 0
Counted B I = length B + count_by is_none I ≡ length I
