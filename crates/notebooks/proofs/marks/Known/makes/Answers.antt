use Rattle.std.proofs.Common.{sym, ◌∙◌}
use Rattle.analysis.specs.Parts.{knows}
use Rattle.analysis.proofs.Making.{made_known}
use Rattle.notebooks.specs.Lists.{nodes_of}
use Rattle.pages.proofs.Paging.{page_ordered}
use Rattle.notebooks.proofs.marks.Known.makes.Goals as goal

pub returns-then-knows : goal.returns-then-knows
returns-then-knows c =
    let k = c.args.self.now in
    let p = k.pages.now in
    sym (made_known (nodes_of p) (page_ordered p.table) c.args.place.0 c.requires.held (knows (nodes_of p) k.known.now) (sym c.knows.ensures ∙ c.if-knows.true))
