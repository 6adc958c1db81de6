-- Walking keeps the value, and ends.
use mathlib.Core.Path.{◌≡◌, refl, sym, ap₂, ◌∙◌, subst}
use mathlib.Core.Option.{Option, none, some}
use mathlib.Core.List.{List, [], ◌∷◌, map}
use Prim.Native.Nat.{ℕ, zero, suc, ◌<◌}
use native.Mathlib.Omega.{arith}
use Rattle.terms.specs.Terms.{Term, name, env, var, pair, seal, inst, Vars}
use Rattle.derivation.specs.Derive.{Derives}
use Rattle.lifting.specs.Lift.{known}
use Rattle.lifting.specs.Bind.{pick, walk, Respects, WalkKeeps, WalkEnds, LiftingWalked}
use Rattle.lifting.proofs.Instances.{vars_map}
use Rattle.lifting.proofs.Lifting.{lifting}

pub walk_keeps : WalkKeeps
walk_keeps B ρ h n (name m) = refl
walk_keeps B ρ h n (env m) = refl
walk_keeps B ρ h zero (var x) = refl
walk_keeps B ρ h (suc n) (var x) = go (B x) refl (λ t. walk_keeps B ρ h n t)
  where
    go : (o : Option Term) → B x ≡ o → ((t : Term) → inst ρ (walk B n t) ≡ inst ρ t) → inst ρ (pick o (λ t. walk B n t) (var x)) ≡ ρ x
    go none e ih = refl
    go (some t) e ih = ih t ∙ sym (h x t e)
walk_keeps B ρ h n (pair a b) = ap₂ pair (walk_keeps B ρ h n a) (walk_keeps B ρ h n b)
walk_keeps B ρ h n (seal b k) = ap₂ seal (walk_keeps B ρ h n b) (walk_keeps B ρ h n k)

pub walk_ends : WalkEnds
walk_ends B r h n (name m) v = tt
walk_ends B r h n (env m) v = tt
walk_ends B r h zero (var x) v = absurd (omega arith)
walk_ends B r h (suc n) (var x) v = go (B x) refl (λ t w. walk_ends B r h n t w)
  where
    go : (o : Option Term) → B x ≡ o → ((t : Term) → Vars (λ y. r y < n) t → Vars (λ y. B y ≡ none) (walk B n t)) → Vars (λ y. B y ≡ none) (pick o (λ t. walk B n t) (var x))
    go none e ih = e
    go (some t) e ih = ih t (vars_map (λ y k. omega arith) t (h x t e))
walk_ends B r h n (pair a b) v = (walk_ends B r h n a v.0, walk_ends B r h n b v.1)
walk_ends B r h n (seal b k) v = (walk_ends B r h n b v.0, walk_ends B r h n k v.1)

-- what is known is the same, walked or not
known_walked : (B : ℕ → Option Term) (n : ℕ) (ρ : ℕ → Term) → Respects B ρ → (acts : List Term) (j : ℕ) → known acts ρ j ≡ known (map (walk B n) acts) ρ j
known_walked B n ρ h acts zero = refl
known_walked B n ρ h [] (suc j) = refl
known_walked B n ρ h (t ∷ ts) (suc j) = ap₂ ◌∷◌ (sym (walk_keeps B ρ h n t)) (known_walked B n ρ h ts j)

pub lifting_walked : LiftingWalked
lifting_walked B n acts ρ h marks j N d =
    lifting (map (walk B n) acts) ρ marks j N (subst (λ (K : List Term). Derives K N) (known_walked B n ρ h acts j) d)
