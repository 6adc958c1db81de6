use Rattle.std.proofs.Common.{rules, List, ◌≡◌, ◌<◌, length, Some, inl, inr, subst, sym}
use Rattle.terms.specs.Nodes.{node}
use Rattle.terms.specs.Tables.{nodes_in}
use Rattle.terms.specs.declared.node.Node.{Node}
use Rattle.alike.specs.Heads.{head}
use Rattle.needs.specs.Asking.{Compound}
use Rattle.needs.proofs.Meeting.{fails_seal}
use Rattle.needs.proofs.asked.Asked.judge.Goals as goal

pub returns-in-Pair : goal.returns-in-Pair
returns-in-Pair c =
    let ns : List Node = nodes_in c.args.nodes.now in
    let h = c.in_ok-c-in-Seal.c in
    let d = c.in_ok-get-in-Seal.field-0 in
    let p : head c.args.alike.now c.in-Seal.key.0 ≡ Some h = search rules in
    let f : (h.0 < length ns) × (d ≡ node ns h.0) = search rules in
    let q : Compound d = elim c.in-Pair.is [ inl z ↦ subst Compound (sym z.2) tt | inr z ↦ subst Compound (sym z.2) tt ] in
    fails_seal ns c.args.reached.now c.args.alike.now c.args.node c.in-Seal.body c.in-Seal.key h d c.in-Seal.is p f.0 f.1 q
