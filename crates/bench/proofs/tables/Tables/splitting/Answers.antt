use Rattle.bench.specs.Tables.{nodes_of}
use Rattle.bench.proofs.Taken.{split_no_value, split_yes}
use Rattle.bench.proofs.tables.Tables.splitting.Goals as goal

pub returns-in_err-subject : goal.returns-in_err-subject
returns-in_err-subject c = rw c.from_residual.ensures (split_no_value (nodes_of c.args.self.now) _ _ _ _ _ c.in_err-subject.ensures)

pub returns : goal.returns
returns c = split_yes (nodes_of c.args.self.now) _ _ _ _ _ _ _ _ c.requires.left_held c.requires.right_held c.in_ok-subject.ensures c.in_ok-left_half.ensures
