use Rattle.std.proofs.Common.{◌≡◌, ℕ, ◌+◌, List, vec_items, sym, ap, ◌∙◌, subst}
use lib.Bits.{bit_or}
use Rattle.terms.specs.declared.node.Node.{Node}
use Rattle.terms.specs.declared.variables.VarSet.{VarSet}
use Rattle.unification.specs.declared.binding.Binding.{Binding}
use Rattle.unification.proofs.Reaching.{Looked, looked_past, looked_in}
use Rattle.std.proofs.lemmas.Bool.{iff_false}
use Rattle.matching.proofs.bindings.Bindings.widen.Goals as goal
use Rattle.matching.proofs.bindings.Bindings.widen.Goals.{then-contains, else-contains}

pub loop-b-preserved : goal.loop-b-preserved
loop-b-preserved c =
    let ns : List Node = vec_items c.args.nodes.now.nodes in
    let L : List Binding = c.deref-b-items.result.now in
    let s : ℕ = c.args.reach.0 in
    let k : ℕ = c.loop-b.b-index in
    let e : L ≡ vec_items c.args.self.now.list = c.deref-b-items.ensures.value in
    let i : Looked ns L s c.loop-b.all.0 k = subst (λ (C : List Binding). Looked ns C s c.loop-b.all.0 k) (sym e) c.loop-b.invariant in
    let next : Looked ns L s c.if-contains.all.0 (k + 1) =
    elim c.if-contains.branch [
      | then-contains w ↦
          let set = rw w.unwrap-set.ensures at w.variables.ensures in
          let q : c.if-contains.all.0 ≡ bit_or c.loop-b.all.0 w.unwrap-set.result.0 = ap (λ (v : VarSet). v.0) w.all-is ∙ w.union-all.ensures in
          subst (λ (m : ℕ). Looked ns L s m (k + 1)) (sym q) (looked_in ns L s c.loop-b.all.0 w.unwrap-set.result.0 k c.loop-b-test.true (c.contains.ensures.0 w.if-contains.true) set.1 i)
      | else-contains w ↦
          let q : c.if-contains.all.0 ≡ c.loop-b.all.0 = ap (λ (v : VarSet). v.0) w.all-is in
          subst (λ (m : ℕ). Looked ns L s m (k + 1)) (sym q) (looked_past ns L s c.loop-b.all.0 k (iff_false c.contains.ensures w.if-contains.false) i)
    ] in
    subst (λ (C : List Binding). Looked ns C s c.if-contains.all.0 (k + 1)) e next
