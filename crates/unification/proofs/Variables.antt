-- The variables of a term, and a number above their ranks.
use mathlib.Core.Path.{◌≡◌, refl, ap₂}
use Prim.Native.Nat.{ℕ, suc, ◌+◌, ◌<◌}
use native.Mathlib.Omega.{arith}
use Rattle.terms.specs.Terms.{Term, name, env, var, pair, seal, inst, Vars}

pub vars_map : {P Q : ℕ → Type 0} → ((y : ℕ) → P y → Q y) → (t : Term) → Vars P t → Vars Q t
vars_map f (name m) v = tt
vars_map f (env m) v = tt
vars_map f (var x) v = f x v
vars_map f (pair a b) v = (vars_map f a v.0, vars_map f b v.1)
vars_map f (seal b k) v = (vars_map f b v.0, vars_map f k v.1)

pub vars_both : (P Q : ℕ → Type 0) (t : Term) → Vars P t → Vars Q t → Vars (λ y. P y × Q y) t
vars_both P Q (name m) v w = tt
vars_both P Q (env m) v w = tt
vars_both P Q (var x) v w = (v, w)
vars_both P Q (pair a b) v w = (vars_both P Q a v.0 w.0, vars_both P Q b v.1 w.1)
vars_both P Q (seal b k) v w = (vars_both P Q b v.0 w.0, vars_both P Q k v.1 w.1)

pub inst_cong : (f g : ℕ → Term) (t : Term) → Vars (λ y. f y ≡ g y) t → inst f t ≡ inst g t
inst_cong f g (name m) v = refl
inst_cong f g (env m) v = refl
inst_cong f g (var x) v = v
inst_cong f g (pair a b) v = ap₂ pair (inst_cong f g a v.0) (inst_cong f g b v.1)
inst_cong f g (seal a b) v = ap₂ seal (inst_cong f g a v.0) (inst_cong f g b v.1)

-- a number above the ranks of a term's variables
abbrev pub top : (ℕ → ℕ) → Term → ℕ
top r (name m) = 0
top r (env m) = 0
top r (var x) = suc (r x)
top r (pair a b) = top r a + top r b
top r (seal a b) = top r a + top r b

pub below_top : (r : ℕ → ℕ) (t : Term) → Vars (λ y. r y < top r t) t
below_top r (name m) = tt
below_top r (env m) = tt
below_top r (var x) = omega arith
below_top r (pair a b) = (vars_map (λ y h. omega arith) a (below_top r a), vars_map (λ y h. omega arith) b (below_top r b))
below_top r (seal a b) = (vars_map (λ y h. omega arith) a (below_top r a), vars_map (λ y h. omega arith) b (below_top r b))
