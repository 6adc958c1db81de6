use Rattle.std.proofs.Common.{◌≡◌, take}
use Rattle.pages.specs.Pages.{nodes_on}
use Rattle.bench.proofs.copying.copy.Given as goal

abbrev pub invariant-loop-i : goal.invariant-loop-i
invariant-loop-i g l =
    let m = g.N.Notebook in
    (m.nodes l.book ≡ take l.i (nodes_on l.pages)) × (m.noted l.book ≡ m.noted l.fn.book)
