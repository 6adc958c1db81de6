-- The variables that stand in keys of a term.
use Rattle.std.specs.Prelude.{Bool, true, false, ℕ, ◌⊎◌, List, bit_or, slice_index_or}
use Rattle.terms.specs.Terms.{Term, name, env, var, pair, seal, Occurs}
use Rattle.terms.specs.Bits.{varset}
use Rattle.terms.specs.Sets.{bits}
use Rattle.terms.specs.declared.node.Node.{Node}
use Rattle.terms.specs.declared.node.Node.TheVariants.{Name, Env, Var, Pair, Seal}
use Rattle.terms.specs.declared.variables.VarSet.{VarSet}

-- the variable stands in a key of the term
abbrev pub InKey : ℕ → Term → Type 0
InKey x (name n) = ⊥
InKey x (env n) = ⊥
InKey x (var y) = ⊥
InKey x (pair a b) = InKey x a ⊎ InKey x b
InKey x (seal b k) = InKey x b ⊎ Occurs x k

-- the set of these variables
abbrev pub keyset : Term → ℕ
keyset (name n) = 0
keyset (env n) = 0
keyset (var x) = 0
keyset (pair a b) = bit_or (keyset a) (keyset b)
keyset (seal b k) = bit_or (keyset b) (varset k)

-- the set at a place of a row of sets
abbrev pub set_at : List VarSet → ℕ → ℕ
set_at sets i = bits (slice_index_or sets i (record { 0 = 0 }))

-- the set of the term that a node says, over the key variables and all variables of its parts
abbrev pub key_says : (ℕ → ℕ) → (ℕ → ℕ) → Node → ℕ
key_says keys all (Name n) = 0
key_says keys all (Env e) = 0
key_says keys all (Var x) = 0
key_says keys all (Pair a b) = bit_or (keys a.0) (keys b.0)
key_says keys all (Seal b k) = bit_or (keys b.0) (all k.0)

-- the node has no parts
abbrev pub partless? : Node → Bool
partless? (Name n) = true
partless? (Env e) = true
partless? (Var x) = true
partless? (Pair a b) = false
partless? (Seal b k) = false
