use Rattle.std.proofs.Common.{◌≡◌, ℕ, ◌<◌, List, vec_items, sym, subst}
use Rattle.terms.specs.Nodes.{node}
use Rattle.terms.specs.declared.node.Node.{Node}
use Rattle.terms.specs.declared.node.Node.TheVariants.{Var}
use Rattle.terms.proofs.Unfolding.{ordered_true}
use Rattle.unification.specs.Bindings.{variable_at, node_at}
use Rattle.unification.specs.declared.binding.Binding.{Binding}
use Rattle.unification.proofs.Goodness.{good_within, good_forward}
use Rattle.unification.proofs.Indexing.{Reached, ahead, hop, nearer}
use Rattle.matching.proofs.Lookups.{node_read}
use Rattle.matching.proofs.bindings.Bindings.walk.Goals as goal
use Rattle.matching.proofs.bindings.Bindings.walk.Goals.{After-index}

-- the node at hand is the variable of binding k
found : (c : After-index) → node (vec_items c.args.nodes.now.nodes) c.loop-k.here.0 ≡ Var (record { 0 = variable_at (vec_items c.args.self.now.list) c.in-Some.k })
found c = subst (λ (t : List Node). node t c.loop-k.here.0 ≡ Var (record { 0 = variable_at (vec_items c.args.self.now.list) c.in-Some.k })) c.as_slice-table.ensures c.in-Some.ensures.1

next : (c : After-index) → node_at (vec_items c.args.self.now.list) c.in-Some.k ≡ c.index.result.now.node.0
next c = sym (node_read (vec_items c.args.self.now.list) c.in-Some.k c.index.result.now c.in-Some.ensures.0 c.index.ensures)

pub loop-k-smaller : goal.loop-k-smaller
loop-k-smaller c =
    let d = (goal.at.loop-k-smaller c).After-index in
    let s = c.args.self.now in
    let ns : List Node = vec_items c.args.nodes.now.nodes in
    let B : List Binding = vec_items s.list in
    subst (λ (i : ℕ). ahead B (vec_items s.index) (node ns i) < ahead B (vec_items s.index) (node ns c.loop-k.here.0)) (next d) (nearer ns B (vec_items s.index) c.in-Some.k (good_forward ns B c.requires.good) s.indexed c.in-Some.ensures.0 c.loop-k.here.0 (found d))

pub loop-k-preserved : goal.loop-k-preserved
loop-k-preserved c =
    let d = (goal.at.loop-k-preserved c).After-index in
    let ns : List Node = vec_items c.args.nodes.now.nodes in
    let B : List Binding = vec_items c.args.self.now.list in
    subst (Reached ns B c.args.n.0) (next d) (hop ns B c.args.n.0 c.loop-k.here.0 c.in-Some.k (ordered_true ns c.args.nodes.now.ordered) (good_within ns B c.requires.good) c.in-Some.ensures.0 (found d) c.loop-k.invariant)
