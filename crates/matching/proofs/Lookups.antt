-- What a read of a table gives, whatever it gives past the end.
use Rattle.std.proofs.Common.{◌≡◌, ℕ, ◌<◌, List, length, get_or, ap}
use Rattle.std.proofs.lemmas.List.{get_or_read}
use Rattle.terms.specs.declared.number.NodeNo.{NodeNo}
use Rattle.unification.specs.Bindings.{no_binding, node_at}
use Rattle.unification.specs.Classes.{up}
use Rattle.unification.specs.declared.binding.Binding.{Binding}

pub parent_read : (P : List NodeNo) (i : ℕ) (p : NodeNo) → i < length P → p ≡ get_or P i p → p.0 ≡ up P i
parent_read P i p h e = ap (λ (q : NodeNo). q.0) (get_or_read P i p h e (record { 0 = 0 }))

pub node_read : (B : List Binding) (k : ℕ) (b : Binding) → k < length B → b ≡ get_or B k b → b.node.0 ≡ node_at B k
node_read B k b h e = ap (λ (q : Binding). q.node.0) (get_or_read B k b h e no_binding)
