use Rattle.std.proofs.Common.{◌∙◌, arith}
use Rattle.analysis.proofs.Marking.{passing_more}
use Rattle.notebooks.specs.Lists.{nodes_of}
use Rattle.notebooks.proofs.marks.Marks.pass.Goals as goal

pub loop-i-preserved-then-spread : goal.loop-i-preserved-then-spread
loop-i-preserved-then-spread c =
    let s = c.loop-i.invariant.same in
    let m = c.if-spread.ensures in
    let a = c.args.self.now in
    record {
      same = (m.same.0 ∙ s.0, m.same.1 ∙ s.1);
      passing = passing_more (nodes_of a.pages.now) a.known.now c.loop-i.self.known.now c.spread.new.self.known.now c.loop-i.i c.loop-i.changed (omega arith) c.loop-i.invariant.passing (rw s.0 at m.spread);
    }
