use Rattle.notebooks.proofs.Rows.{put_refused, put_parts}
use Rattle.notebooks.proofs.keeping.KeepingNotebookNotebook.put.Goals as goal

pub invariant_of-self : goal.invariant_of-self
invariant_of-self c =
    let b = c.args.self.now in
    record { room = b.room; parts = put_refused _ _ _ _ c.args.node c.in_err-place.field-0.0 _ c.in_err-place.ensures b.parts }

pub invariant_of-self-2-clause-parts : goal.invariant_of-self-2-clause-parts
invariant_of-self-2-clause-parts c =
    let b = c.args.self.now in
    put_parts _ _ _ _ c.args.node c.in_ok-place.place _ _ b.pages.table.lawful b.pages.held c.in_ok-place.ensures c.push_reserved.ensures.items b.parts
