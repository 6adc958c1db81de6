use Rattle.std.proofs.Common.{◌≡◌, ◌≤◌, [], length, take, vec_items, vec_len, vec_capacity}
use Rattle.notebook.specs.Replies.{Plays}
use Rattle.notebook.proofs.calls.play.Given as goal

abbrev pub invariant-loop-one : goal.invariant-loop-one
invariant-loop-one g l =
    let m = g.N.Notebook in
    Plays (take l.one-index l.calls) [] [] (vec_items l.out) (m.nodes l.book) (m.noted l.book)
    × (vec_len l.out ≡ l.one-index)
    × (length l.calls ≤ vec_capacity l.out)
