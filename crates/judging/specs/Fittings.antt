-- The two lists of nodes of a fitting.
use Rattle.std.specs.Prelude.{List}
use Rattle.terms.specs.declared.node.Node.{Node}
use Rattle.sheet.specs.Sheets.{content_of}
use Rattle.pages.specs.Pages.{nodes_on}
use Rattle.judging.specs.declared.fitting.Fitting.{Fitting}

-- those of the sheet, whose terms are fitted
abbrev pub open_nodes : Fitting → List Node
open_nodes f = (content_of f.sheet.now).nodes

-- and those of the pages, to whose terms they are fitted
abbrev pub closed_nodes : Fitting → List Node
closed_nodes f = nodes_on f.pages.now
