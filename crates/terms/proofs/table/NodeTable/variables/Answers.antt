use Rattle.std.proofs.Common.{◌∙◌}
use Rattle.terms.proofs.Gathering.{gathered_at}
use Rattle.terms.proofs.table.NodeTable.variables.Goals as goal

pub returns : goal.returns
returns c = rw c.copied.ensures (gathered_at _ _ _ _ (c.as_slice.ensures.value ∙ c.args.self.now.gathered) c.get.ensures.lookup)
