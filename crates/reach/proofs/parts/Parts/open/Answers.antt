use Rattle.std.proofs.Common.{List, arith}
use Rattle.std.proofs.lemmas.Bool.{iff_false}
use Rattle.terms.specs.Tables.{nodes_in}
use Rattle.terms.specs.declared.node.Node.{Node}
use Rattle.terms.proofs.Unfolding.{ordered_true}
use Rattle.reach.proofs.Stepping.{open_step}
use Rattle.reach.proofs.parts.Parts.open.Goals as goal

pub returns : goal.returns
returns c B k w e =
    let ns : List Node = nodes_in c.args.nodes.now in
    let u = c.opens.ensures.0 c.if-not-opens.false in
    open_step ns (ordered_true ns c.args.nodes.now.ordered) B k w c.args.b e c.args.self.now c.with-self.result (omega (arith, c.if-b-ge-VARIABLES.false)) (iff_false c.contains.ensures c.if-contains.false) u.0 u.1 c.with-self.ensures.members (omega arith)
