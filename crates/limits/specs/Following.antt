-- What is asked of bound variables, passed on to the variables of their nodes.
use Rattle.std.specs.Prelude.{◌≡◌, ℕ, ◌<◌, List, length, Some, None, Option}
use Rattle.terms.specs.Terms.{Term, inst, Atom, Occurs}
use Rattle.terms.specs.Nodes.{term}
use Rattle.terms.specs.declared.node.Node.{Node}
use Rattle.unification.specs.Bindings.{variable_at, node_at, Instance}
use Rattle.unification.specs.declared.binding.Binding.{Binding}
use Rattle.limits.specs.Keys.{InKey}
use Rattle.limits.specs.Demands.{AsksMessage, AsksAtom, Meets}
use Rattle.limits.specs.declared.demands.Demands.{Demands}

-- d' asks for all that d asks for
pub record Grows (d d' : Demands) : Type 0 where
  pub messages : (x : ℕ) → AsksMessage d x → AsksMessage d' x
  pub atoms : (x : ℕ) → AsksAtom d x → AsksAtom d' x

-- where d asks for a message of x, d' asks the same of the term t
pub record PassesMessage (d : Demands) (x : ℕ) (t : Term) (d' : Demands) : Type 0 where
  pub said : AsksMessage d x → (y : ℕ) → Occurs y t → AsksMessage d' y
  pub locked : AsksMessage d x → (y : ℕ) → InKey y t → AsksAtom d' y

-- where d asks for a name of x, d' asks the same of the term t
pub record PassesAtom (d : Demands) (x : ℕ) (t : Term) (d' : Demands) : Type 0 where
  pub plain : AsksAtom d x → Atom t
  pub atoms : AsksAtom d x → (y : ℕ) → Occurs y t → AsksAtom d' y

-- values with x at t that meet d meet d' too
abbrev pub Needs : Demands → ℕ → Term → Demands → Type 0
Needs d x t d' = (ρ : ℕ → Term) → ρ x ≡ inst ρ t → Meets d ρ → Meets d' ρ

-- no values with x at t meet d
abbrev pub NoneMeets : Demands → ℕ → Term → Type 0
NoneMeets d x t = (ρ : ℕ → Term) → ρ x ≡ inst ρ t → Meets d ρ → ⊥

pub record MessagePassed (d : Demands) (x : ℕ) (t : Term) (d' : Demands) : Type 0 where
  pub grows : Grows d d'
  pub passes : PassesMessage d x t d'
  pub needs : Needs d x t d'

-- the binding of x to t passed on that names are asked for, or x is no name
abbrev pub AtomPassed : Demands → ℕ → Term → Option Demands → Type 0
AtomPassed d x t None = NoneMeets d x t
AtomPassed d x t (Some d') = Grows d d' × PassesAtom d x t d' × Needs d x t d'

-- the binding of x to t passed on all that is asked, or what is asked cannot be had
abbrev pub Passed : Demands → ℕ → Term → Option Demands → Type 0
Passed d x t None = NoneMeets d x t
Passed d x t (Some d') = Grows d d' × PassesMessage d x t d' × PassesAtom d x t d' × Needs d x t d'

-- the first k bindings pass on what d asks to d'
abbrev pub AllPass : List Node → List Binding → ℕ → Demands → Demands → Type 0
AllPass ns B k d d' = (j : ℕ) → j < k → PassesMessage d (variable_at B j) (term ns (node_at B j)) d' × PassesAtom d (variable_at B j) (term ns (node_at B j)) d'

-- no instance of the bindings meets d
abbrev pub NoInstance : List Node → List Binding → Demands → Type 0
NoInstance ns B d = (ρ : ℕ → Term) → Instance ns B ρ → Meets d ρ → ⊥

-- instances of the bindings that meet d meet d' too
abbrev pub InstancesMeet : List Node → List Binding → Demands → Demands → Type 0
InstancesMeet ns B d d' = (ρ : ℕ → Term) → Instance ns B ρ → Meets d ρ → Meets d' ρ

-- the first k bindings were looked through, and d has become d'
pub record Looked (ns : List Node) (B : List Binding) (k : ℕ) (d d' : Demands) : Type 0 where
  pub grows : Grows d d'
  pub passes : AllPass ns B k d d'
  pub needs : InstancesMeet ns B d d'

-- one look through all bindings
abbrev pub Followed : List Node → List Binding → Demands → Option Demands → Type 0
Followed ns B d None = NoInstance ns B d
Followed ns B d (Some d') = Looked ns B (length B) d d'

-- nothing more is asked: d' asks for what d does, and every binding passes on within it
pub record Rests (ns : List Node) (B : List Binding) (d d' : Demands) : Type 0 where
  pub grows : Grows d d'
  pub needs : InstancesMeet ns B d d'
  pub passes : AllPass ns B (length B) d' d'

abbrev pub Settled : List Node → List Binding → Demands → Option Demands → Type 0
Settled ns B d None = NoInstance ns B d
Settled ns B d (Some d') = Rests ns B d d'
