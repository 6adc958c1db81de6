-- What is asked of the values of variables, and the values that meet it.
use Rattle.std.specs.Prelude.{ℕ, ◌⊎◌}
use Rattle.terms.specs.Terms.{Term, Atom, Message, Occurs}
use Rattle.terms.specs.Bits.{In}
use Rattle.terms.specs.Sets.{bits}
use Rattle.limits.specs.Keys.{InKey}
use Rattle.limits.specs.declared.demands.Demands.{Demands}

-- the value of x has to be a message
abbrev pub AsksMessage : Demands → ℕ → Type 0
AsksMessage d x = In x (bits d.messages)

-- the value of x has to be a name, or a variable
abbrev pub AsksAtom : Demands → ℕ → Type 0
AsksAtom d x = In x (bits d.atoms)

-- the values are as is asked
pub record Meets (d : Demands) (ρ : ℕ → Term) : Type 0 where
  pub messages : (x : ℕ) → AsksMessage d x → Message (ρ x)
  pub atoms : (x : ℕ) → AsksAtom d x → Atom (ρ x)

-- d' asks for what d asks for, and that the value of t be a message
pub record WithMessage (d : Demands) (t : Term) (d' : Demands) : Type 0 where
  pub messages : (x : ℕ) → (AsksMessage d' x → AsksMessage d x ⊎ Occurs x t) × (AsksMessage d x ⊎ Occurs x t → AsksMessage d' x)
  pub atoms : (x : ℕ) → (AsksAtom d' x → AsksAtom d x ⊎ InKey x t) × (AsksAtom d x ⊎ InKey x t → AsksAtom d' x)

-- d' asks for what d asks for, and that the value of t be a name or a variable
pub record WithAtom (d : Demands) (t : Term) (d' : Demands) : Type 0 where
  pub atom : Atom t
  pub messages : (x : ℕ) → (AsksMessage d' x → AsksMessage d x) × (AsksMessage d x → AsksMessage d' x)
  pub atoms : (x : ℕ) → (AsksAtom d' x → AsksAtom d x ⊎ Occurs x t) × (AsksAtom d x ⊎ Occurs x t → AsksAtom d' x)
