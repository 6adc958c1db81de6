-- What is derived at a time, and what the open terms of the actions show of it.
use Rattle.std.specs.Prelude.{◌≡◌, ℕ, ◌<◌, take}
use mathlib.Core.List.{List, map, Memᴰ}
use Rattle.terms.specs.Terms.{Term, name, env, var, pair, seal, inst, IsName}
use Rattle.derivation.specs.Derive.{Derives}

-- anything but a variable
abbrev pub NonVar : Term → Type 0
NonVar (name n) = Unit {0}
NonVar (env n) = Unit {0}
NonVar (var x) = ⊥
NonVar (pair a b) = Unit {0}
NonVar (seal b k) = Unit {0}

-- the open terms that taking apart reaches; a key that is a variable or of the environment is taken for known
pub data Analz (S : List Term) : Term → Type 0 where
  listed : {t : Term} → Memᴰ t S → Analz S t
  left : {a b : Term} → Analz S (pair a b) → Analz S a
  right : {a b : Term} → Analz S (pair a b) → Analz S b
  by_var : {b : Term} {x : ℕ} → Analz S (seal b (var x)) → Analz S b
  by_env : {b : Term} {n : ℕ} → Analz S (seal b (env n)) → Analz S b
  by_name : {b : Term} {n : ℕ} → Analz S (seal b (name n)) → Analz S (name n) → Analz S b

-- the closed terms put together from instances of those
pub data Covers (ρ : ℕ → Term) (S : List Term) : Term → Type 0 where
  leaf : {N : Term} (c : Term) → NonVar c → Analz S c → N ≡ inst ρ c → Covers ρ S N
  public : (n : ℕ) → Covers ρ S (env n)
  both : {a b : Term} → Covers ρ S a → Covers ρ S b → Covers ρ S (pair a b)
  make_seal : {b k : Term} → Covers ρ S b → IsName k → Covers ρ S k → Covers ρ S (seal b k)

-- what is known before action j, under a valuation
abbrev pub known : List Term → (ℕ → Term) → ℕ → List Term
known acts ρ j = map (inst ρ) (take j acts)

-- a variable that is reached has a value that was derived before
abbrev pub Marked : List Term → (ℕ → Term) → Type 0
Marked acts ρ = (j x : ℕ) → Analz (take j acts) (var x) → (k : ℕ) × (k < j) × Derives (known acts ρ k) (ρ x)

-- a variable that stands as a key has a name for its value, which is derived
abbrev pub Keyed : List Term → (ℕ → Term) → Type 0
Keyed acts ρ = (j : ℕ) (b : Term) (x : ℕ) → Analz (take j acts) (seal b (var x)) → IsName (ρ x) × Derives (known acts ρ j) (ρ x)

-- what is derived is put together from instances of what taking apart reaches
abbrev pub Lifting : Type 0
Lifting = (acts : List Term) (ρ : ℕ → Term) → Marked acts ρ → (j : ℕ) (N : Term) → Derives (known acts ρ j) N → Covers ρ (take j acts) N

-- and what is put together so is derived
abbrev pub Lowering : Type 0
Lowering = (acts : List Term) (ρ : ℕ → Term) → Keyed acts ρ → (j : ℕ) (N : Term) → Covers ρ (take j acts) N → Derives (known acts ρ j) N

-- a local name that is derived is reached: which ones are depends on the open terms alone
abbrev pub LocalName : Type 0
LocalName = (acts : List Term) (ρ : ℕ → Term) → Marked acts ρ → (j n : ℕ) → Derives (known acts ρ j) (name n) → Analz (take j acts) (name n)

-- a derived seal whose key is not derived is an instance of a seal that is reached
abbrev pub ShutSeal : Type 0
ShutSeal =
    (acts : List Term) (ρ : ℕ → Term) →
    Marked acts ρ →
    Keyed acts ρ →
    (j : ℕ) (b k : Term) →
    Derives (known acts ρ j) (seal b k) →
    ¬ Derives (known acts ρ j) k →
    (b' : Term) × (k' : Term) × Analz (take j acts) (seal b' k') × (seal b k ≡ inst ρ (seal b' k'))
