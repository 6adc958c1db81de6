-- What every notebook's lists are: its pages mean such lists.
use Rattle.std.specs.Prelude.{◌≡◌, ◌≤◌, List, length}
use Rattle.std.proofs.Common.{arith}
use Rattle.std.proofs.lemmas.List.{length-map}
use Rattle.terms.specs.declared.node.Node.{Node}
use Rattle.terms.specs.declared.number.NodeNo.{NodeNo}
use Rattle.derivation.specs.Noted.{Held}
use Rattle.notebook.specs.Calls.{LawfulLists}
use Rattle.notebook.specs.Limits.{most_nodes, most_notes}
use Rattle.pages.specs.Columns.{AllLawful}
use Rattle.pages.proofs.Paging.{few_nodes}
use Rattle.notebooks.specs.declared.noted.Pages.{Pages}
use Rattle.notebooks.specs.Numbers.{numbers}
use Rattle.notebooks.specs.Lists.{nodes_of, noted_of}

-- there are as many numbers as places
pub length_numbers : (ps : List NodeNo) → length (numbers ps) ≡ length ps
length_numbers ps = length-map ps (λ x. x.0)

-- what every notebook's lists are
pub lists_lawful : (ns : List Node) (ps : List NodeNo) → AllLawful ns → length ns ≤ most_nodes → length ps ≤ most_notes → Held ns (numbers ps) → LawfulLists ns (numbers ps)
lists_lawful ns ps h l m d = record { lawful = h; few_nodes = l; few_notes = omega (arith, length_numbers ps); held = d }

-- the lists that a notebook's pages mean are lawful
pub pages_lawful : (p : Pages) → LawfulLists (nodes_of p) (noted_of p)
pages_lawful p =
    let m = p.notes.ok.0 in
    lists_lawful (nodes_of p) p.notes.items p.table.lawful (few_nodes p.table) (omega arith) p.held
