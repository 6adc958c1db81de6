use Rattle.std.proofs.Common.{◌∙◌}
use Rattle.analysis.proofs.Marking.{above_above, passed_above}
use Rattle.notebooks.specs.Lists.{nodes_of}
use Rattle.notebooks.proofs.marks.Marks.settle.Goals as goal

pub loop-preserved : goal.loop-preserved
loop-preserved c =
    let s = c.loop.invariant.same in
    let m = c.pass.ensures in
    let a = c.args.self.now in
    let p = passed_above _ _ _ c.pass.result m.passing in
    record {
      same = (m.same.0 ∙ s.0, m.same.1 ∙ s.1);
      above = above_above (nodes_of a.pages.now) a.known.now c.loop.self.known.now c.pass.new.self.known.now c.loop.invariant.above (rw s.0 at p);
    }
