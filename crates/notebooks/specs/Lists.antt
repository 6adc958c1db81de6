-- The two lists that a notebook's pages mean, and what stays of a table of marks while marks are made.
use Rattle.std.specs.Prelude.{◌≡◌, ℕ, List}
use Rattle.terms.specs.declared.node.Node.{Node}
use Rattle.pages.specs.Pages.{nodes_on}
use Rattle.notebooks.specs.declared.noted.Pages.{Pages}
use Rattle.notebooks.specs.declared.marks.Marks.{Marks}
use Rattle.notebooks.specs.Numbers.{numbers}

abbrev pub nodes_of : Pages → List Node
nodes_of p = nodes_on p.table

abbrev pub noted_of : Pages → List ℕ
noted_of p = numbers p.notes.items

-- the pages are the same, and the marks are made in the same table
abbrev pub Same : Marks → Marks → Type 0
Same m n = (n.pages ≡ m.pages) × (n.known.ghost_name ≡ m.known.ghost_name)
