use Rattle.std.proofs.Common.{◌≡◌, ◌<◌, List, length, vec_items, ap, ap₂, ◌∙◌, arith}
use Rattle.terms.specs.Bits.{varset}
use Rattle.terms.specs.Nodes.{node, term}
use Rattle.terms.specs.Tables.{nodes_in}
use Rattle.terms.specs.declared.node.Node.{Node}
use Rattle.terms.specs.declared.variables.VarSet.{VarSet}
use Rattle.terms.proofs.Unfolding.{ordered_true}
use Rattle.limits.specs.Keys.{key_says, set_at}
use Rattle.limits.proofs.Keying.{keys_more}
use Rattle.limits.proofs.keys.all_keys.Goals as goal

pub keys_said-set-requires-clause-below : goal.keys_said-set-requires-clause-below
keys_said-set-requires-clause-below c =
    let ns : List Node = nodes_in c.args.nodes.now in
    let k = c.loop-node.node-index in
    let e = c.as_slice-node-items.ensures in
    let l : k < length ns = omega (arith, ap length e, c.loop-node-test.true) in
    let here : length c.as_slice.result.now ≡ k = ap length c.as_slice.ensures.value ∙ c.loop-node.invariant.0 in
    rw (here, e) (ordered_true ns c.args.nodes.now.ordered k l)

pub loop-node-preserved : goal.loop-node-preserved
loop-node-preserved c =
    let ns : List Node = nodes_in c.args.nodes.now in
    let k = c.loop-node.node-index in
    let e = c.as_slice-node-items.ensures in
    let l : k < length ns = omega (arith, ap length e, c.loop-node-test.true) in
    keys_more ns (vec_items c.loop-node.keys) (vec_items c.push.new.self) k c.keys_said-set.result (ordered_true ns c.args.nodes.now.ordered) l c.loop-node.invariant (c.keys_said-set.ensures ∙ ap₂ (λ (sets : List VarSet) (t : List Node). key_says (set_at sets) (λ i. varset (term ns i)) (node t k)) c.as_slice.ensures.value e) c.in_ok-push.ensures.items
