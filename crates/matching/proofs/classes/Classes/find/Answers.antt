use Rattle.std.proofs.Common.{◌≡◌, ◌<◌, length, vec_items, sym, arith}
use Rattle.unification.specs.Classes.{up}
use Rattle.unification.proofs.Joining.{way_on}
use Rattle.matching.proofs.Lookups.{parent_read}
use Rattle.matching.proofs.classes.Classes.find.Goals as goal
use Rattle.matching.proofs.classes.Classes.find.Goals.{After-index}

here : (c : After-index) → c.loop-parent.here.0 < length (vec_items c.args.self.now.parents)
here c = omega (arith, c.loop-parent.invariant.low, c.requires, c.args.self.now.parents.ok.0)

parent : (c : After-index) → c.index.result.now.0 ≡ up (vec_items c.args.self.now.parents) c.loop-parent.here.0
parent c = parent_read (vec_items c.args.self.now.parents) c.loop-parent.here.0 c.index.result.now (here c) c.index.ensures

pub loop-parent-preserved : goal.loop-parent-preserved
loop-parent-preserved c =
    let p = parent (goal.at.loop-parent-preserved c).After-index in
    let h = here (goal.at.loop-parent-preserved c).After-index in
    let low = c.args.self.now.lower c.loop-parent.here.0 h in
    record { low = omega (arith, c.loop-parent.invariant.low); way = way_on (vec_items c.args.self.now.parents) c.args.n.0 c.loop-parent.here.0 c.index.result.now.0 h (sym p) c.loop-parent.invariant.way }
