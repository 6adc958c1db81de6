use Rattle.std.proofs.Common.{ℕ, ◌<◌, List, length, vec_items, vec_len, subst, arith}
use Rattle.terms.specs.declared.number.NodeNo.{NodeNo}
use Rattle.unification.specs.Classes.{up}
use Rattle.unification.proofs.Counting.{heads_reset}
use Rattle.unification.proofs.Tracing.{traced_free, lower_free, listed_front, listed_last}
use Rattle.matching.proofs.classes.Classes.reset.Goals as goal

pub invariant_of-self : goal.invariant_of-self
invariant_of-self c =
    let s = c.loop-n.self in
    let P : List NodeNo = vec_items s.parents in
    let L : List NodeNo = vec_items c.pop.new.self in
    let n : NodeNo = c.in-Some.n in
    let e = c.in-Some.ensures.items in
    let all : (k : ℕ) → k < length (vec_items s.linked) → up (vec_items s.linked) k < vec_len s.parents = s.listed in
    let every = subst (λ (M : List NodeNo). (k : ℕ) → k < length M → up M k < vec_len s.parents) e all in
    let here : n.0 < length P = omega (arith, s.parents.ok.0, listed_last (λ i. i < vec_len s.parents) L n every) in
    let q = heads_reset 0 P n.0 n in record {
      lower = lower_free P n s.lower here;
      traced = traced_free P L (vec_items s.linked) n e here s.traced;
      counted = omega (arith, q, s.counted, c.in-Some.ensures.len);
      listed = listed_front (λ i. i < vec_len s.parents) L n every;
      roomy = omega (arith, s.roomy, c.in-Some.ensures.capacity);
    }
