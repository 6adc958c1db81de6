use Rattle.bench.specs.Tables.{nodes_of}
use Rattle.bench.proofs.Taken.{same_no_first, same_no_second, same_yes}
use Rattle.bench.proofs.tables.Tables.agreeing.Goals as goal

pub returns-in_err-left : goal.returns-in_err-left
returns-in_err-left c = rw c.from_residual.ensures (same_no_first (nodes_of c.args.self.now) _ _ _ _ c.in_err-left.ensures)

pub returns-in_err-right : goal.returns-in_err-right
returns-in_err-right c = rw c.from_residual-in_err-right.ensures (same_no_second (nodes_of c.args.self.now) _ _ _ _ c.in_err-right.ensures)

pub returns : goal.returns
returns c = same_yes (nodes_of c.args.self.now) _ _ _ _ _ _ c.in_ok-left.ensures c.in_ok-right.ensures (c.same.ensures.0 c.if-not-same.false).2
