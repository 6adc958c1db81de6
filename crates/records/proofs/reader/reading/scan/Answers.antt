use Rattle.std.proofs.lemmas.Result.{err_from_is_err_and}
use Rattle.records.proofs.Fronts.{shorter}
use Rattle.records.proofs.Scanning.{begins_more, begins_all, begins_fault, one_scan, one_way}
use Rattle.records.proofs.reader.reading.scan.Goals as goal

pub loop-smaller : goal.loop-smaller
loop-smaller c = let x = rw c.in-Some.is at c.in_ok-next.ensures in shorter _ _ _ x.0

pub loop-preserved : goal.loop-preserved
loop-preserved c = let x = rw c.in-Some.is at c.in_ok-next.ensures in begins_more _ _ _ _ _ _ c.loop.invariant x.0 x.1

pub returns : goal.returns
returns c =
    let x = rw c.in_default.is at c.in_ok-next.ensures in
    record { cases = begins_all _ _ _ _ c.loop.invariant x.0 (cc x.2); unique = one_scan; list = one_way }

pub returns-in_err-next : goal.returns-in_err-next
returns-in_err-next c =
    let p = err_from_is_err_and c.from_residual.result c.from_residual.ensures.1 in
    record { cases = rw (p.1, p.2) (begins_fault _ _ _ _ _ _ c.loop.invariant c.in_err-next.ensures); unique = one_scan; list = one_way }
