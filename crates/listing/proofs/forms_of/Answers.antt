use Rattle.std.proofs.Common.{arith}
use Rattle.sheet.specs.Sheets.{content_of}
use Rattle.listing.specs.Lines.{forms}
use Rattle.listing.proofs.Forming.{forms_more}
use Rattle.listing.proofs.forms_of.Goals as goal

pub loop-node-preserved : goal.loop-node-preserved
loop-node-preserved c =
    let C = content_of c.args.sheet.now in
    let e = rw (c.words.ensures.of, c.words.ensures.part, c.as_slice.ensures.value) at c.in_ok-form.ensures.ok in
    forms_more C.names C.variables (forms C) _ _ _ c.nodes-node-items.result.now c.loop-node.node-index _ (omega arith) e c.in_ok-push.ensures.items c.loop-node.invariant
