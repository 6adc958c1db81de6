-- What each step of marking does to a table of marks: a are the marks before it, b after it.
use Rattle.std.specs.Prelude.{◌≡◌, ℕ, ◌<◌, ◌≤◌, Bool, true, false, List, length, slice_index_or, slice_set}
use Rattle.terms.specs.Nodes.{term}
use Rattle.terms.specs.declared.node.Node.{Node}
use Rattle.analysis.specs.Parts.{knows, taken, composed, Shut, Grows, Contains, free}

-- b has the marks of a, and no more than every shut marking that has those
abbrev pub Above : List Node → List Bool → List Bool → Type 0
Above ns a b = Grows a b × ((other : List Bool) → Shut ns other → Grows a other → Grows b other)

-- one mark, and whether it is new
abbrev pub Marked : List Bool → ℕ → List Bool → Bool → Type 0
Marked a i b true = (slice_index_or a i false ≡ false) × (b ≡ slice_set a i true)
Marked a i b false = (slice_index_or a i false ≡ true) × (b ≡ a)

-- taking the term at place i apart adds nothing
abbrev pub Done : List Node → List Bool → ℕ → Type 0
Done ns a i = knows ns a (term ns i) ≡ true → taken (knows ns a) (term ns i) ≡ true

-- the term at place i taken apart, and whether that marked anything
abbrev pub Spread : List Node → List Bool → ℕ → List Bool → Bool → Type 0
Spread ns a i b true = Above ns a b × (free b < free a)
Spread ns a i b false = (b ≡ a) × Done ns a i

-- the terms from place i on taken apart, and whether that marked anything
abbrev pub Passing : List Node → List Bool → ℕ → List Bool → Bool → Type 0
Passing ns a i b true = Above ns a b × (free b < free a)
Passing ns a i b false = (b ≡ a) × ((k : ℕ) → i ≤ k → k < length ns → Done ns a k)

-- all that comes of the marks of a
abbrev pub Settled : List Node → List Bool → List Bool → Type 0
Settled ns a b = Above ns a b × Shut ns b

-- one mark more, and all that comes of it
abbrev pub Learned : List Node → List Bool → ℕ → List Bool → Type 0
Learned ns a i c = (b : List Bool) × (r : Bool) × Marked a i b r × Settled ns b c

-- the marks of the noted places, and no others
abbrev pub Noting : List Node → List ℕ → List Bool → Type 0
Noting ns noted b = Contains ns noted b × ((other : List Bool) → Contains ns noted other → Grows b other)

-- the table of what is put together, right below place n
abbrev pub Made : List Node → List Bool → List Bool → ℕ → Type 0
Made ns known made n = (k : ℕ) → k < n → slice_index_or made k false ≡ composed (knows ns known) (term ns k)
