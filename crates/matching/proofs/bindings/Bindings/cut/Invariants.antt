use Rattle.std.proofs.Common.{◌≡◌, take, vec_items, vec_len}
use Rattle.matching.proofs.bindings.Bindings.cut.Given as goal

abbrev pub invariant-loop-self : goal.invariant-loop-self
invariant-loop-self l = take l.n (vec_items l.self.list) ≡ take l.n (vec_items l.initial.self.list)

abbrev pub decreases-loop-self : goal.decreases-loop-self
decreases-loop-self l = vec_len l.self.list
