use Rattle.std.proofs.Common.{length, ap, ◌∙◌}
use Rattle.analysis.proofs.Marking.{settled_parts}
use Rattle.notebook.specs.Limits.{most_nodes}
use Rattle.notebooks.specs.Lists.{nodes_of, noted_of}
use Rattle.notebooks.proofs.Rows.{blank_take}
use Rattle.notebooks.proofs.Paging.{parts_answer}
use Rattle.notebooks.proofs.asking.AskingNotebookNotebook.derivable.Goals as goal

pub mark_noted-requires : goal.mark_noted-requires
mark_noted-requires c = blank_take most_nodes c.len.result

pub returns : goal.returns
returns c =
    let p = c.args.self.now.pages in
    let e = c.mark_noted.ensures.same.0 in
    let f = c.settle.ensures.same.0 ∙ e in
    let m = c.settle.new.self in
    let q = settled_parts (nodes_of p) (noted_of p) c.mark_noted.new.self.known.now m.known.now (m.size ∙ ap (λ q. length (nodes_of q.now)) f) c.mark_noted.ensures.noting (rw e at c.settle.ensures.settled) in
    parts_answer p _ _ _ _ (ap (λ q. nodes_of q.now) (c.seen.ensures.pages ∙ f)) (c.holds.ensures.0 c.if-not-holds.false) (rw c.seen.ensures.known q) c.composes.ensures
