use Rattle.std.proofs.Common.{◌≤◌, length, ap, ◌∙◌, arith}
use Rattle.std.proofs.lemmas.List.{take_all}
use Rattle.notebooks.specs.Lists.{nodes_of, noted_of}
use Rattle.notebooks.specs.Paging.{length_numbers}
use Rattle.notebooks.proofs.Paging.{place_held, place_noting}
use Rattle.notebooks.proofs.marks.Marks.mark_noted.Goals as goal

pub mark-requires : goal.mark-requires
mark-requires c = rw c.loop-place.invariant.same.0 (place_held c.args.self.now.pages.now _ _ _ c.as_slice-place-items.ensures.value c.loop-place-test.true)

pub loop-place-preserved : goal.loop-place-preserved
loop-place-preserved c =
    let s = c.loop-place.invariant.same in
    let m = c.mark.ensures in
    record {
      same = (m.same.0 ∙ s.0, m.same.1 ∙ s.1);
      noting = place_noting c.args.self.now.pages.now _ _ _ _ _ _ _ (ap (λ p. nodes_of p.now) s.0) c.as_slice-place-items.ensures.value c.loop-place-test.true c.loop-place.self.size c.loop-place.invariant.noting m.marked;
    }

pub returns-clause-noting : goal.returns-clause-noting
returns-clause-noting c =
    let p = c.args.self.now.pages.now in
    let l : length (noted_of p) ≤ c.loop-place.place-index = omega (arith, length_numbers p.notes.items, ap length c.as_slice-place-items.ensures.value, c.loop-place-test.false) in
    rw (take_all c.loop-place.place-index (noted_of p) l) at c.loop-place.invariant.noting
