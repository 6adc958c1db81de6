-- The first place of each term of a table: where two places hold one term, both have one first place.
use Rattle.std.specs.Prelude.{◌≡◌, ℕ, suc, ◌<◌, ◌≤◌, Bool, false, cond, ◌&&◌, List, [], ◌∷◌, map, length, ◌==◌}
use Rattle.terms.specs.Terms.{Term, name, env, var, pair, seal}
use Rattle.terms.specs.Nodes.{terms, term}
use Rattle.terms.specs.declared.node.Node.{Node}
use Rattle.terms.specs.declared.number.NodeNo.{NodeNo}

-- whether two terms are one, as a test
abbrev pub same : Term → Term → Bool
same (name m) (name n) = m == n
same (name m) (env n) = false
same (name m) (var n) = false
same (name m) (pair c d) = false
same (name m) (seal c d) = false
same (env m) (name n) = false
same (env m) (env n) = m == n
same (env m) (var n) = false
same (env m) (pair c d) = false
same (env m) (seal c d) = false
same (var m) (name n) = false
same (var m) (env n) = false
same (var m) (var n) = m == n
same (var m) (pair c d) = false
same (var m) (seal c d) = false
same (pair a b) (name n) = false
same (pair a b) (env n) = false
same (pair a b) (var n) = false
same (pair a b) (pair c d) = same a c && same b d
same (pair a b) (seal c d) = false
same (seal a b) (name n) = false
same (seal a b) (env n) = false
same (seal a b) (var n) = false
same (seal a b) (pair c d) = false
same (seal a b) (seal c d) = same a c && same b d

-- the first place of a term in a list, or the list's length where it is not there
abbrev pub find : Term → List Term → ℕ
find t [] = 0
find t (s ∷ ts) = cond (same s t) 0 (suc (find t ts))

-- the first place of a term in a table
abbrev pub first : List Node → Term → ℕ
first ns t = find t (terms ns)

-- the first place of the term at each place
abbrev pub firsts : List Node → List NodeNo
firsts ns = map (λ t. record { 0 = first ns t }) (terms ns)

-- two places have one first place exactly when they hold one term, and it is not after them
abbrev pub FirstPlaces : Type 0
FirstPlaces = (ns : List Node) (i j : ℕ) → i < length ns → j < length ns
    → (first ns (term ns i) ≤ i) × (term ns (first ns (term ns i)) ≡ term ns i) × (first ns (term ns i) ≡ first ns (term ns j) → term ns i ≡ term ns j) × (term ns i ≡ term ns j → first ns (term ns i) ≡ first ns (term ns j))
