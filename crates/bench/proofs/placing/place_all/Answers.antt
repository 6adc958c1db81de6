use Rattle.std.proofs.Common.{rules, arith, ◌≡◌, ◌<◌, List, length, None, slice_index_or, ap}
use Rattle.terms.specs.Nodes.{node}
use Rattle.terms.specs.declared.node.Node.{Node}
use Rattle.pages.specs.Pages.{nodes_on}
use Rattle.judging.proofs.Reading.{few_nodes}
use Rattle.bench.proofs.Places.{swept_place, swept_skip, swept_is, swept_room, sheet_ordered}
use Rattle.bench.proofs.placing.place_all.Goals as goal
use Rattle.bench.proofs.placing.place_all.Goals.{then-is_none, else-is_none}

pub place-requires-clause-room : goal.place-requires-clause-room
place-requires-clause-room c =
    let gap : slice_index_or c.loop-i.placed c.loop-i.i None ≡ None = search rules in
    let within : c.loop-i.i < length c.loop-i.placed = omega (arith, few_nodes c.args.sheet.now, ap length c.nodes-nodes.ensures) in
    swept_room _ _ _ _ _ _ _ c.requires.room (search rules) within gap c.loop-i.invariant

pub loop-i-preserved : goal.loop-i-preserved
loop-i-preserved c =
    let within : c.loop-i.i < length c.loop-i.placed = omega (arith, few_nodes c.args.sheet.now, ap length c.nodes-nodes.ensures) in
    elim c.if-is_none.branch [
      | then-is_none w ↦
          let gap : slice_index_or c.loop-i.placed c.loop-i.i None ≡ None = search rules in
          swept_is _ _ _ _ _ _ _ _ _ (ap nodes_on w.pages-is) w.placed-is (swept_place _ _ _ _ _ _ _ _ _ _ (sheet_ordered c.args.sheet.now) c.requires.values_kept (search rules) within gap (ap (λ (l : List Node). node l c.loop-i.i) c.nodes-nodes.ensures) c.loop-i.invariant w.place.ensures)
      | else-is_none w ↦ swept_is _ _ _ _ _ _ _ _ _ (ap nodes_on w.pages-is) w.placed-is (swept_skip _ _ _ _ _ _ _ (search rules) w.if-is_none.ensures c.loop-i.invariant)
    ]
