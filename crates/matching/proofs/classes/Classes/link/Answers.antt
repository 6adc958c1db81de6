use Rattle.std.proofs.Common.{ℕ, ◌<◌, List, length, set, vec_items, vec_len, sym, subst, arith}
use Rattle.terms.specs.declared.number.NodeNo.{NodeNo}
use Rattle.unification.specs.Classes.{up, Traced}
use Rattle.unification.proofs.Counting.{heads_some, heads_set}
use Rattle.unification.proofs.Tracing.{traced_link, listed_snoc}
use Rattle.unification.proofs.Stepping.{lower_set}
use Rattle.matching.proofs.classes.Classes.link.Goals as goal

pub push_reserved-requires : goal.push_reserved-requires
push_reserved-requires c =
    let s = c.args.self.now in
    let h = heads_some 0 (vec_items s.parents) c.args.root.0 (omega (arith, s.parents.ok.0, c.requires.within)) (omega (arith, c.requires.root)) in
    omega (arith, s.counted, s.roomy)

pub invariant_of-self : goal.invariant_of-self
invariant_of-self c =
    let s = c.args.self.now in
    let P : List NodeNo = vec_items s.parents in
    let L : List NodeNo = vec_items s.linked in
    let hi : NodeNo = c.args.root in
    let lo : NodeNo = c.args.parent in
    let e = c.push_reserved.ensures.items in
    let w : hi.0 < length P = omega (arith, s.parents.ok.0, c.requires.within) in
    let q = heads_set 0 P hi.0 lo w (omega (arith, c.requires.root)) (omega (arith, c.requires.lower)) in record {
      lower = lower_set P hi.0 lo w c.requires.lower s.lower;
      traced = subst (λ (M : List NodeNo). Traced (set P hi.0 lo) M) (sym e) (traced_link P L hi lo s.traced);
      counted = omega (arith, q, s.counted, c.push_reserved.ensures.len);
      listed = subst (λ (M : List NodeNo). (k : ℕ) → k < length M → up M k < vec_len s.parents) (sym e) (listed_snoc (λ i. i < vec_len s.parents) L hi s.listed c.requires.within);
      roomy = omega (arith, s.roomy, c.push_reserved.ensures.capacity);
    }
