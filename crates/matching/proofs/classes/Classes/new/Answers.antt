use Rattle.std.proofs.Common.{◌≡◌, length, vec_items, sym, ap, subst, arith}
use Rattle.unification.specs.Classes.{Own}
use Rattle.unification.proofs.Counting.{heads_le}
use Rattle.unification.proofs.Tracing.{own_first}
use Rattle.matching.proofs.classes.Classes.new.Goals as goal

pub invariant_of-result : goal.invariant_of-result
invariant_of-result c =
    let v = c.in_ok-parents.parents in
    let m = c.in_ok-linked.ensures in
    let own : Own (vec_items v) = subst Own (sym c.in_ok-parents.ensures.items) (own_first c.args.nodes) in
    let none : length (vec_items c.in_ok-linked.linked) ≡ 0 = ap length m.items in
    record {
      lower = (λ i h. let a = own i h in omega arith);
      traced = (λ i h a. own i h);
      counted = omega (arith, heads_le 0 (vec_items v), v.ok.0, m.len);
      listed = (λ k h. absurd (omega arith));
      roomy = omega (arith, c.in_ok-parents.ensures.size, m.capacity);
    }
