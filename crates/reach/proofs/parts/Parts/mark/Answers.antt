use Rattle.std.proofs.Common.{List, sym, ◌∙◌, inl, inr}
use Rattle.terms.specs.Tables.{nodes_in}
use Rattle.terms.specs.declared.node.Node.{Node}
use Rattle.terms.proofs.Unfolding.{ordered_true}
use Rattle.reach.proofs.Marking.{name_marked, seal_marked, variable_marked, env_marked, pair_marked}
use Rattle.reach.proofs.parts.Parts.mark.Goals as goal

pub returns-in-Name : goal.returns-in-Name
returns-in-Name c =
    let ns : List Node = nodes_in c.args.nodes.now in
    name_marked ns (ordered_true ns c.args.nodes.now.ordered) c.args.self.now c.args.n.0 c.in-Some.ensures.0 (sym c.contains.ensures ∙ c.if-contains.false) c.add.new.self c.add.ensures c.in-Name.a c.add-in-Name.new.self (sym c.in-Some.ensures.1 ∙ c.in-Name.is) c.add-in-Name.ensures

pub returns-in-Var : goal.returns-in-Var
returns-in-Var c =
    let ns : List Node = nodes_in c.args.nodes.now in
    variable_marked ns (ordered_true ns c.args.nodes.now.ordered) c.args.self.now c.args.n.0 c.in-Some.ensures.0 (sym c.contains.ensures ∙ c.if-contains.false) c.add.new.self c.add.ensures c.in-Var.x c.with-self.result (sym c.in-Some.ensures.1 ∙ c.in-Var.is) c.with-self.ensures.members

pub returns-in-Seal : goal.returns-in-Seal
returns-in-Seal c =
    let ns : List Node = nodes_in c.args.nodes.now in
    seal_marked ns (ordered_true ns c.args.nodes.now.ordered) c.args.self.now c.args.n.0 c.in-Some.ensures.0 (sym c.contains.ensures ∙ c.if-contains.false) c.add.new.self c.add.ensures c.in-Seal.body c.in-Seal.key c.add-in-Seal.new.self (sym c.in-Some.ensures.1 ∙ c.in-Seal.is) c.add-in-Seal.ensures

pub returns-in-Env : goal.returns-in-Env
returns-in-Env c =
    let ns : List Node = nodes_in c.args.nodes.now in
    let o = ordered_true ns c.args.nodes.now.ordered in
    let f = sym c.contains.ensures ∙ c.if-contains.false in
    let l = c.in-Some.ensures.0 in
    let e = c.in-Some.ensures.1 in
    elim c.in-Env.is [
      | inl p ↦ env_marked ns o c.args.self.now c.args.n.0 l f c.add.new.self c.add.ensures p.0 (sym e ∙ p.1)
      | inr p ↦ pair_marked ns o c.args.self.now c.args.n.0 l f c.add.new.self c.add.ensures p.0 p.1 (sym e ∙ p.2)
    ]
