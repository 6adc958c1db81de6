-- What the environment can put together from a list of closed terms.
use mathlib.Core.List.{List, [], ◌∷◌, Memᴰ}
use Rattle.std.specs.Prelude.{ℕ}
use Rattle.terms.specs.Terms.{Term, name, env, pair, seal, IsName, Closed, Message}

infix 40 ◌⊆◌
-- the listed terms, every name of the environment, halves and pairs, and what a derived name opens or seals
pub data Derives (K : List Term) : Term → Type 0 where
  listed : {t : Term} → Memᴰ t K → Derives K t
  public : (n : ℕ) → Derives K (env n)
  left : {a b : Term} → Derives K (pair a b) → Derives K a
  right : {a b : Term} → Derives K (pair a b) → Derives K b
  both : {a b : Term} → Derives K a → Derives K b → Derives K (pair a b)
  open_seal : {b k : Term} → Derives K (seal b k) → IsName k → Derives K k → Derives K b
  make_seal : {b k : Term} → Derives K b → IsName k → Derives K k → Derives K (seal b k)

abbrev pub ◌⊆◌ : List Term → List Term → Type 0
K ⊆ L = (t : Term) → Memᴰ t K → Memᴰ t L

-- from a longer list all the same is derived
abbrev pub Monotone : Type 0
Monotone = (K L : List Term) → K ⊆ L → (t : Term) → Derives K t → Derives L t

-- what is derived from derived terms is derived
abbrev pub Cut : Type 0
Cut = (K L : List Term) → ((t : Term) → Memᴰ t L → Derives K t) → (t : Term) → Derives L t → Derives K t

-- from closed terms only closed terms are derived
abbrev pub StaysClosed : Type 0
StaysClosed = (K : List Term) → ((t : Term) → Memᴰ t K → Closed t) → (t : Term) → Derives K t → Closed t

-- from messages only messages are derived
abbrev pub StaysMessage : Type 0
StaysMessage = (K : List Term) → ((t : Term) → Memᴰ t K → Message t) → (t : Term) → Derives K t → Message t

-- from {d}k alone d is not derived, but the pair of {d}k with itself is; with k, d is
abbrev pub SealedSecret : Type 0
SealedSecret = (d k : ℕ) → (Derives (seal (name d) (name k) ∷ []) (name d) → ⊥)
    × Derives (seal (name d) (name k) ∷ []) (pair (seal (name d) (name k)) (seal (name d) (name k)))
    × Derives (seal (name d) (name k) ∷ (name k ∷ [])) (name d)
