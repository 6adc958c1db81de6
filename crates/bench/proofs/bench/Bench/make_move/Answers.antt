use Rattle.bench.specs.Tables.{protocol_in, nodes_of, situation}
use Rattle.bench.proofs.Calling.{moved_well}
use Rattle.bench.proofs.bench.Bench.make_move.Goals as goal

pub returns-clause-moved : goal.returns-clause-moved
returns-clause-moved g c =
    let t = c.args.self.now.tables in
    moved_well (protocol_in t) (nodes_of t) (situation t) _ c.args.strand.0 c.in_ok-effect.effect c.in_ok-effect.ensures c.perform.ensures.situation
