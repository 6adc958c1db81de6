use Rattle.std.proofs.Common.{◌≡◌, ◌-◌, ◌+◌, arith}
use Rattle.judging.specs.Fittings.{open_nodes, closed_nodes}
use Rattle.judging.specs.Places.{values_in}
use Rattle.judging.proofs.Settling.{settled_on}
use Rattle.judging.proofs.fitting.Fitting.+settle_below.Goals as goal

pub returns-then-settle-clause-settled : goal.returns-then-settle-clause-settled
returns-then-settle-clause-settled t c =
    let ns = closed_nodes c.args.self.now in
    let k : c.args.n - 1 + 1 ≡ c.args.n = omega (arith, c.if-n-eq0.false) in
    settled_on (open_nodes c.args.self.now) (c.args.n - 1 + 1) c.args.n (c.args.n - 1) 0 _ _ (values_in ns c.settle.new.values) (values_in ns c.settle.new.places) _ _ c.settle.result c.settle_below.result k c.if-settle.true c.settle.ensures.settled c.settle_below.ensures.settled
