use Rattle.std.proofs.Common.{List, sym, ◌∙◌}
use Rattle.std.proofs.lemmas.Bool.{iff_false}
use Rattle.terms.specs.Tables.{nodes_in}
use Rattle.terms.specs.declared.node.Node.{Node}
use Rattle.terms.proofs.Unfolding.{ordered_true}
use Rattle.reach.proofs.Stepping.{or_first, or_second, no_step, pair_step, seal_step, shut_step}
use Rattle.reach.proofs.parts.Parts.take_apart.Goals as goal

pub returns-then-l : goal.returns-then-l
returns-then-l c B =
    let ns : List Node = nodes_in c.args.nodes.now in
    let o = ordered_true ns c.args.nodes.now.ordered in
    let f = rw c.in-Some-Pair.is at c.get.ensures in
    or_first ns o B _ _ _ c.mark-l.result c.mark-r.result c.if-l.true
    (pair_step ns o B c.args.self.now c.mark-l.new.self c.mark-r.new.self c.args.i.0 c.in-Some-Pair.left c.in-Some-Pair.right c.mark-l.result c.mark-r.result f.0 (sym f.1 ∙ c.in-Some-Pair.field-0-is) (sym c.contains.ensures ∙ c.if-not-contains.false) c.mark-l.ensures c.mark-r.ensures)

pub returns-else-l : goal.returns-else-l
returns-else-l c B =
    let ns : List Node = nodes_in c.args.nodes.now in
    let o = ordered_true ns c.args.nodes.now.ordered in
    let f = rw c.in-Some-Pair.is at c.get.ensures in
    or_second ns o B _ _ _ c.mark-l.result c.mark-r.result c.if-l.false
    (pair_step ns o B c.args.self.now c.mark-l.new.self c.mark-r.new.self c.args.i.0 c.in-Some-Pair.left c.in-Some-Pair.right c.mark-l.result c.mark-r.result f.0 (sym f.1 ∙ c.in-Some-Pair.field-0-is) (sym c.contains.ensures ∙ c.if-not-contains.false) c.mark-l.ensures c.mark-r.ensures)

pub returns-then-opens : goal.returns-then-opens
returns-then-opens c B =
    let ns : List Node = nodes_in c.args.nodes.now in
    let o = ordered_true ns c.args.nodes.now.ordered in
    let f = rw c.in-Some-Seal.is at c.get.ensures in
    let u = c.opens.ensures.0 c.if-opens.true in
    seal_step ns o B c.args.self.now c.mark.new.self c.args.i.0 c.in-Some-Seal.body c.in-Some-Seal.key c.mark.result f.0 (sym f.1 ∙ c.in-Some-Seal.field-0-is) (sym c.contains.ensures ∙ c.if-not-contains.false) u.1 c.mark.ensures

pub returns-else-opens : goal.returns-else-opens
returns-else-opens c B =
    let ns : List Node = nodes_in c.args.nodes.now in
    let o = ordered_true ns c.args.nodes.now.ordered in
    let f = rw c.in-Some-Seal.is at c.get.ensures in
    no_step ns o B _ _ _ c.opens.result c.if-opens.false
    (shut_step ns o B c.args.self.now c.args.i.0 c.in-Some-Seal.body c.in-Some-Seal.key f.0 (sym f.1 ∙ c.in-Some-Seal.field-0-is) (iff_false c.opens.ensures c.if-opens.false))
