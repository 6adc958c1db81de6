use Rattle.std.proofs.Common.{ap}
use Rattle.analysis.proofs.Marking.{or_first, or_second}
use Rattle.notebooks.specs.Lists.{nodes_of}
use Rattle.notebooks.proofs.Paging.{pair_spread, seal_spread}
use Rattle.notebooks.proofs.marks.Marks.spread.Goals as goal

pub returns-then-l-clause-spread : goal.returns-then-l-clause-spread
returns-then-l-clause-spread c =
    let m = c.args.self.now in
    or_first _ _ _ _ _ _ c.if-l.true (pair_spread m.pages.now _ _ _ _ _ _ _ _ _ c.requires c.in-Pair.ensures.value m.size (ap (λ p. nodes_of p.now) c.mark-l.ensures.same.0) (cc) c.mark-l.ensures.marked c.mark-r.ensures.marked)

pub returns-else-l-clause-spread : goal.returns-else-l-clause-spread
returns-else-l-clause-spread c =
    let m = c.args.self.now in
    or_second _ _ _ _ _ _ c.if-l.false (pair_spread m.pages.now _ _ _ _ _ _ _ _ _ c.requires c.in-Pair.ensures.value m.size (ap (λ p. nodes_of p.now) c.mark-l.ensures.same.0) (cc) c.mark-l.ensures.marked c.mark-r.ensures.marked)

pub returns-else-not-opens-clause-spread : goal.returns-else-not-opens-clause-spread
returns-else-not-opens-clause-spread c =
    let m = c.args.self.now in
    seal_spread m.pages.now _ _ _ _ _ _ c.requires c.in-Seal.ensures.value m.size (cc) (cc) c.mark.ensures.marked
