use Rattle.std.proofs.Common.{◌≡◌, ◌<◌, None, length, set, take, vec_items, arith}
use Rattle.unification.specs.Index.{Indexed}
use Rattle.unification.proofs.Indexing.{cut_on}
use Rattle.unification.proofs.Counting.{counted_pop}
use Rattle.matching.proofs.bindings.Bindings.cut.Goals as goal
use Rattle.matching.proofs.bindings.Bindings.cut.Goals.{In-Some}

-- the list and the index with one binding less
less : (c : In-Some) → Indexed (vec_items c.pop.new.self) (set (vec_items c.loop-self.self.index) c.in-Some.b.variable.0 None) × (take c.args.n (vec_items c.pop.new.self) ≡ take c.args.n (vec_items c.args.self.now.list))
less c =
    let s = c.loop-self.self in
    let m : c.args.n < length (vec_items s.list) = omega (arith, s.list.ok.0, c.len.ensures, c.loop-self-test.true) in
    cut_on (vec_items c.pop.new.self) (vec_items s.list) (vec_items c.args.self.now.list) (vec_items s.index) c.in-Some.b c.args.n m c.in-Some.ensures.items (s.indexed, c.loop-self.invariant)

pub invariant_of-self-in-loop-self : goal.invariant_of-self-in-loop-self
invariant_of-self-in-loop-self c =
    let s = c.loop-self.self in record {
      indexed = (less (goal.at.invariant_of-self-in-loop-self c).In-Some).0;
      counted = counted_pop (vec_items c.pop.new.self) (vec_items s.list) (vec_items s.index) c.in-Some.b c.in-Some.ensures.items s.indexed s.counted;
      wide = s.wide;
      roomy = omega (arith, s.roomy, c.in-Some.ensures.capacity);
    }
