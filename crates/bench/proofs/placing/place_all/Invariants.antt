use Rattle.pages.specs.Pages.{nodes_on}
use Rattle.sheet.specs.Sheets.{content_of}
use Rattle.bench.specs.Places.{Swept}
use Rattle.bench.proofs.placing.place_all.Given as goal

abbrev pub invariant-loop-i : goal.invariant-loop-i
invariant-loop-i l = Swept (nodes_on l.fn.pages) (content_of l.fn.sheet).nodes l.values l.fn.placed l.i (nodes_on l.pages) l.placed
