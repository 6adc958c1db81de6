use Rattle.std.proofs.Common.{arith}
use Rattle.std.proofs.lemmas.List.{length-set}
use Rattle.records.proofs.Rows.{row_more}
use Rattle.records.proofs.body.words.Goals as goal

pub loop-i-preserved : goal.loop-i-preserved
loop-i-preserved g c =
    let l = c.loop-i.invariant in
    let more = row_more _ _ _ _ _ _ _ l.0 l.1 l.2 (omega (arith, l.2)) (λ i. omega (arith, c.type_inv.body i)) l.3 c.from_le_bytes.ensures in
    (simp length-set l.0, l.1, l.2, more)
