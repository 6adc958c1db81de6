-- What a table of nodes holds.
use Rattle.std.specs.Prelude.{List, vec_items}
use Rattle.terms.specs.declared.node.Node.{Node}
use Rattle.terms.specs.declared.table.NodeTable.{NodeTable}

-- the nodes of the table, by number
abbrev pub nodes_in : NodeTable → List Node
nodes_in t = vec_items t.nodes
