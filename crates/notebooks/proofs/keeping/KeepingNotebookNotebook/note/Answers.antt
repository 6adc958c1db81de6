use Rattle.std.proofs.Common.{◌≡◌, length, sym, ap, ◌∙◌}
use Rattle.std.proofs.lemmas.List.{with_items_is}
use Rattle.notebooks.proofs.Rows.{note_refused, note_parts}
use Rattle.notebooks.proofs.keeping.KeepingNotebookNotebook.note.Goals as goal

pub invariant_of-self : goal.invariant_of-self
invariant_of-self c =
    let b = c.args.self.now in
    record { room = b.room; parts = note_refused _ _ _ _ c.args.place c.in_err-note.field-0.0 _ c.in_err-note.ensures b.parts }

pub invariant_of-self-2-clause-parts : goal.invariant_of-self-2-clause-parts
invariant_of-self-2-clause-parts c =
    let b = c.args.self.now in
    let v = b.known.ok.0 in
    let l = c.learn.auto.known in
    let e = c.as_mut_slice.ensures.value in
    let z : length c.learn.new.known ≡ b.known.len = l ∙ ap length e ∙ sym v in
    note_parts _ _ _ _ c.args.place _ _ c.learn.new.known _ c.in_ok-note.ensures e l (with_items_is b.known c.learn.new.known z) c.learn.ensures b.parts
