use Rattle.std.proofs.Common.{◌<◌, sym, ◌∙◌, arith}
use Rattle.limits.proofs.Following.{amount, asks_more}
use Rattle.limits.proofs.demands.Demands.settle.Goals as goal

pub loop-more-smaller : goal.loop-more-smaller
loop-more-smaller c =
    let more : amount c.loop-more.all < amount c.in_ok-more.more = asks_more c.loop-more.all c.in_ok-more.more c.in_ok-more.ensures.grows (sym c.eq.ensures ∙ c.if-eq.false) in
    omega arith
