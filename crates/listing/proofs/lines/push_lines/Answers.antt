use Rattle.std.proofs.Common.{arith}
use Rattle.listing.proofs.Numbering.{added_more}
use Rattle.listing.proofs.lines.push_lines.Goals as goal

pub loop-i-preserved : goal.loop-i-preserved
loop-i-preserved g c f h =
    added_more _ f c.args.items.now c.loop-i.i c.index-items-i.result (omega arith) c.index-items-i.is (c.loop-i.invariant f h) (h.adds _ _ _ _ _ c.in_ok-line.ensures)
