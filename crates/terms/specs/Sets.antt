-- The sets of variables of a table's terms.
use Rattle.std.specs.Prelude.{ℕ, ◌<◌, ◌≤◌, List, map, length, Some, None, Option}
use Rattle.terms.specs.Terms.{Term, Occurs}
use Rattle.terms.specs.Bits.{In, varset}
use Rattle.terms.specs.Nodes.{terms, term}
use Rattle.terms.specs.declared.node.Node.{Node}
use Rattle.terms.specs.declared.variables.VarSet.{VarSet}

-- the set as a number, whose bits its members are
abbrev pub bits : VarSet → ℕ
bits s = s.0

abbrev pub set_of : Term → VarSet
set_of t = record { 0 = varset t }

-- the set of variables of each term of the table
abbrev pub sets : List Node → List VarSet
sets ns = map set_of (terms ns)

-- the variables of the term with a number, or none where the table has no such number
abbrev pub Gathered : List Node → ℕ → Option VarSet → Type 0
Gathered ns i None = length ns ≤ i
Gathered ns i (Some s) = (i < length ns) × ((x : ℕ) → (In x (bits s) → Occurs x (term ns i)) × (Occurs x (term ns i) → In x (bits s)))
