-- Bindings of variables to terms, and walking them.
use Rattle.std.specs.Prelude.{◌≡◌, List, map, ℕ, zero, suc, ◌<◌, take}
use Rattle.std.proofs.Math.Option.{Option, none, some}
use Rattle.terms.specs.Terms.{Term, name, env, var, pair, seal, inst, Vars}
use Rattle.derivation.specs.Derive.{Derives}
use Rattle.lifting.specs.Lift.{Covers, known, Marked}

-- a function of what is there, or else the other term
abbrev pub pick : Option Term → (Term → Term) → Term → Term
pick none f t = t
pick (some s) f t = f s

-- each variable's binding is followed, at most n deep
abbrev pub walk : (ℕ → Option Term) → ℕ → Term → Term
walk B n (name m) = name m
walk B n (env m) = env m
walk B zero (var x) = var x
walk B (suc n) (var x) = pick (B x) (λ t. walk B n t) (var x)
walk B n (pair a b) = pair (walk B n a) (walk B n b)
walk B n (seal b k) = seal (walk B n b) (walk B n k)

-- the valuation agrees with the bindings
abbrev pub Respects : (ℕ → Option Term) → (ℕ → Term) → Type 0
Respects B ρ = (x : ℕ) (t : Term) → B x ≡ some t → ρ x ≡ inst ρ t

-- a binding's variables rank below the variable that is bound
abbrev pub Ranked : (ℕ → Option Term) → (ℕ → ℕ) → Type 0
Ranked B r = (x : ℕ) (t : Term) → B x ≡ some t → Vars (λ y. r y < r x) t

-- walking keeps the value
abbrev pub WalkKeeps : Type 0
WalkKeeps = (B : ℕ → Option Term) (ρ : ℕ → Term) → Respects B ρ → (n : ℕ) (t : Term) → inst ρ (walk B n t) ≡ inst ρ t

-- walked deep enough, a term has no bound variable left
abbrev pub WalkEnds : Type 0
WalkEnds = (B : ℕ → Option Term) (r : ℕ → ℕ) → Ranked B r → (n : ℕ) (t : Term) → Vars (λ y. r y < n) t → Vars (λ y. B y ≡ none) (walk B n t)

-- the lifting lemma over bindings: the actions' terms are walked before they are taken apart
abbrev pub LiftingWalked : Type 0
LiftingWalked =
    (B : ℕ → Option Term) (n : ℕ) (acts : List Term) (ρ : ℕ → Term) →
    Respects B ρ →
    Marked (map (walk B n) acts) ρ →
    (j : ℕ) (N : Term) →
    Derives (known acts ρ j) N →
    Covers ρ (take j (map (walk B n) acts)) N
