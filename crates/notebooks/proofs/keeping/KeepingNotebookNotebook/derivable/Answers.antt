use Rattle.std.proofs.Common.{Bool, List, refl, ap, ◌∙◌}
use Rattle.terms.specs.Nodes.{term}
use Rattle.analysis.specs.Parts.{knows, composed}
use Rattle.notebooks.specs.Lists.{nodes_of}
use Rattle.notebooks.proofs.Paging.{parts_answer}
use Rattle.notebooks.proofs.keeping.KeepingNotebookNotebook.derivable.Goals as goal

pub returns : goal.returns
returns c =
    let b = c.args.self.now in
    let ns = nodes_of b.pages in
    parts_answer b.pages ns b.known.items c.args.place c.composes.result refl (c.holds.ensures.0 c.if-not-holds.false) b.parts
    (c.composes.ensures ∙ ap (λ (x : List Bool). composed (knows ns x) (term ns c.args.place.0)) c.deref.ensures.value)
