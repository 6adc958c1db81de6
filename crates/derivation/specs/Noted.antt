-- Places of a table that are noted: those whose terms the environment was given.
use Rattle.std.specs.Prelude.{List, map, ℕ, ◌<◌, length, get_or}
use Rattle.terms.specs.Terms.{Term}
use Rattle.terms.specs.Nodes.{term}
use Rattle.terms.specs.declared.node.Node.{Node}

-- each noted place is one of the table
abbrev pub Held : List Node → List ℕ → Type 0
Held ns noted = (k : ℕ) → k < length noted → get_or noted k 0 < length ns

-- the terms at the noted places
abbrev pub noted_terms : List Node → List ℕ → List Term
noted_terms ns noted = map (term ns) noted
