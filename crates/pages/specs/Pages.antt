-- What a table of pages means, and what is read of it.
use Rattle.std.specs.Prelude.{◌≡◌, ℕ, ◌<◌, ◌≤◌, Bool, List, length, Some, None, Option, Decides, slice_index_or, false}
use Rattle.terms.specs.Terms.{Message}
use Rattle.terms.specs.Nodes.{node, term}
use Rattle.terms.specs.declared.node.Node.{Node}
use Rattle.analysis.specs.Places.{first}
use Rattle.pages.specs.declared.page.Page.{Page}
use Rattle.pages.specs.declared.page.PageTable.{PageTable}
use Rattle.pages.specs.Columns.{nodes_in}

-- the nodes, each at its place
abbrev pub nodes_on : PageTable → List Node
nodes_on t = nodes_in t.list.items

-- the node at a place with the first place of its term, or none where the place is not held
abbrev pub PageAt : List Node → ℕ → Option Page → Type 0
PageAt ns i None = length ns ≤ i
PageAt ns i (Some p) = (i < length ns) × (p.node ≡ node ns i) × (p.first.0 ≡ first ns (term ns i))

-- the answers below place n, whether the term there is a message, are right
abbrev pub Told : List Node → List Bool → ℕ → Type 0
Told ns said n = (k : ℕ) → k < n → Decides (slice_index_or said k false) (Message (term ns k))
