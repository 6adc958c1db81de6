-- Instances of terms, and predicates of their variables.
use mathlib.Core.Path.{◌≡◌, refl, sym, ap₂, subst}
use mathlib.Core.Logic.{inl, inr}
use Prim.Native.Nat.{ℕ}
use Rattle.terms.specs.Terms.{Term, name, env, var, pair, seal, inst, Closed, Vars, Occurs}

-- an instance by closed terms is closed
pub inst_closed : (ρ : ℕ → Term) → ((x : ℕ) → Closed (ρ x)) → (t : Term) → Closed (inst ρ t)
inst_closed ρ h (name n) = tt
inst_closed ρ h (env n) = tt
inst_closed ρ h (var x) = h x
inst_closed ρ h (pair a b) = (inst_closed ρ h a, inst_closed ρ h b)
inst_closed ρ h (seal b k) = (inst_closed ρ h b, inst_closed ρ h k)

-- a closed term is its own instance
pub inst_of_closed : (ρ : ℕ → Term) (t : Term) → Closed t → inst ρ t ≡ t
inst_of_closed ρ (name n) c = refl
inst_of_closed ρ (env n) c = refl
inst_of_closed ρ (var x) c = absurd c
inst_of_closed ρ (pair a b) c = ap₂ pair (inst_of_closed ρ a c.0) (inst_of_closed ρ b c.1)
inst_of_closed ρ (seal b k) c = ap₂ seal (inst_of_closed ρ b c.0) (inst_of_closed ρ k c.1)

pub vars_map : {P Q : ℕ → Type 0} → ((y : ℕ) → P y → Q y) → (t : Term) → Vars P t → Vars Q t
vars_map f (name m) v = tt
vars_map f (env m) v = tt
vars_map f (var x) v = f x v
vars_map f (pair a b) v = (vars_map f a v.0, vars_map f b v.1)
vars_map f (seal b k) v = (vars_map f b v.0, vars_map f k v.1)

-- what holds of every variable holds of one that occurs
pub vars_at : (P : ℕ → Type 0) (x : ℕ) (t : Term) → Vars P t → Occurs x t → P x
vars_at P x (name n) v o = absurd o
vars_at P x (env n) v o = absurd o
vars_at P x (var y) v o = subst P (sym o) v
vars_at P x (pair a b) v o = elim o [ inl h ↦ vars_at P x a v.0 h | inr h ↦ vars_at P x b v.1 h ]
vars_at P x (seal b k) v o = elim o [ inl h ↦ vars_at P x b v.0 h | inr h ↦ vars_at P x k v.1 h ]
