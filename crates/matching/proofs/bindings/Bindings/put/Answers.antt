use Rattle.std.proofs.Common.{◌≡◌, ℕ, ◌<◌, List, Option, [], ◌∷◌, ◌++◌, length, vec_items, arith}
use Rattle.unification.specs.declared.binding.Binding.{Binding}
use Rattle.unification.proofs.Indexing.{indexed_put}
use Rattle.unification.proofs.Counting.{counted_room, counted_put}
use Rattle.matching.proofs.bindings.Bindings.put.Goals as goal

pub push_reserved-requires : goal.push_reserved-requires
push_reserved-requires c =
    let s = c.args.self.now in
    let B : List Binding = vec_items s.list in
    let I : List (Option ℕ) = vec_items s.index in
    let h = counted_room B I c.args.b.variable.0 s.indexed s.counted c.requires.unbound (omega (arith, c.requires.narrow, s.wide, s.index.ok.0)) in
    omega (arith, h, s.list.ok.0, s.index.ok.0, s.wide, s.roomy)

pub invariant_of-self : goal.invariant_of-self
invariant_of-self c =
    let s = c.args.self.now in
    let B : List Binding = vec_items s.list in
    let I : List (Option ℕ) = vec_items s.index in
    let x : ℕ = c.args.b.variable.0 in
    let b : Binding = record { variable = c.args.b.variable; node = c.args.b.node } in
    let w : x < length I = omega (arith, c.requires.narrow, s.wide, s.index.ok.0) in
    let e : vec_items c.push_reserved.new.self ≡ B ++ (b ∷ []) = c.push_reserved.ensures.items in
    let n : c.len.result ≡ length B = omega (arith, c.len.ensures, s.list.ok.0) in record {
      indexed = rw (e, n) (indexed_put B I b s.indexed c.requires.unbound w);
      counted = rw (e, n) (counted_put B I b (length B) s.indexed s.counted c.requires.unbound w);
      wide = s.wide;
      roomy = omega (arith, s.roomy, c.push_reserved.ensures.capacity);
    }
