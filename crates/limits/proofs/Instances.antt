-- When the instance of a term is a message, and when it is a name or a variable.
use Rattle.std.proofs.Common.{ℕ, sym, subst, refl, inl, inr}
use Rattle.terms.specs.Terms.{Term, name, env, var, pair, seal, inst, Atom, Message, Occurs}
use Rattle.limits.specs.Keys.{InKey}

pub atom_part : (ρ : ℕ → Term) (t : Term) → Atom (inst ρ t) → (x : ℕ) → Occurs x t → Atom (ρ x)
atom_part ρ (name n) a x o = absurd o
atom_part ρ (env n) a x o = absurd o
atom_part ρ (var y) a x o = subst (λ (z : ℕ). Atom (ρ z)) (sym o) a
atom_part ρ (pair b c) a x o = absurd a
atom_part ρ (seal b c) a x o = absurd a

pub atom_shown : (ρ : ℕ → Term) (t : Term) → Atom (inst ρ t) → Atom t
atom_shown ρ (name n) a = tt
atom_shown ρ (env n) a = tt
atom_shown ρ (var y) a = tt
atom_shown ρ (pair b c) a = a
atom_shown ρ (seal b c) a = a

pub atom_instance : (ρ : ℕ → Term) (t : Term) → Atom t → ((x : ℕ) → Occurs x t → Atom (ρ x)) → Atom (inst ρ t)
atom_instance ρ (name n) a h = tt
atom_instance ρ (env n) a h = tt
atom_instance ρ (var y) a h = h y refl
atom_instance ρ (pair b c) a h = a
atom_instance ρ (seal b c) a h = a

-- a variable in a key of a message stands for a name or a variable
pub key_part : (ρ : ℕ → Term) (t : Term) → Message (inst ρ t) → (x : ℕ) → InKey x t → Atom (ρ x)
key_part ρ (name n) m x k = absurd k
key_part ρ (env n) m x k = absurd k
key_part ρ (var y) m x k = absurd k
key_part ρ (pair a b) m x k = elim k [ inl h ↦ key_part ρ a m.0 x h | inr h ↦ key_part ρ b m.1 x h ]
key_part ρ (seal b c) m x k = elim k [ inl h ↦ key_part ρ b m.0 x h | inr h ↦ atom_part ρ c m.1 x h ]

-- a message with messages for its variables, and names in its keys, is one
pub message_instance : (ρ : ℕ → Term) (t : Term) → Message t → ((x : ℕ) → Occurs x t → Message (ρ x)) → ((x : ℕ) → InKey x t → Atom (ρ x)) → Message (inst ρ t)
message_instance ρ (name n) m v k = tt
message_instance ρ (env n) m v k = tt
message_instance ρ (var y) m v k = v y refl
message_instance ρ (pair a b) m v k =
    (message_instance ρ a m.0 (λ x o. v x (inl o)) (λ x o. k x (inl o)), message_instance ρ b m.1 (λ x o. v x (inr o)) (λ x o. k x (inr o)))
message_instance ρ (seal b c) m v k =
    (message_instance ρ b m.0 (λ x o. v x (inl o)) (λ x o. k x (inl o)), atom_instance ρ c m.1 (λ x o. k x (inr o)))
