use Rattle.bench.specs.Tables.{nodes_of}
use Rattle.bench.proofs.Calling.{derives_told}
use Rattle.bench.proofs.bench.Bench.is_derived.Goals as goal

pub returns : goal.returns
returns g c =
    let b = c.args.self.now in
    derives_told _ (nodes_of b.tables) _ b.tables.run.items c.args.node c.derivable.result b.nodes b.noted c.requires c.derivable.ensures
