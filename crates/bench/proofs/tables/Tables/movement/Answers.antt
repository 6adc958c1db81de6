use Rattle.bench.specs.Tables.{sheet_in, nodes_of, situation}
use Rattle.bench.proofs.Places.{sound_of}
use Rattle.bench.proofs.Following.{taken_at}
use Rattle.bench.proofs.tables.Tables.movement.Goals as goal

pub effect-requires : goal.effect-requires
effect-requires c =
    let t = c.args.self.now in
    (sound_of t.sheet).steps_stand c.args.strand.0 ((situation t).state.next c.args.strand.0) c.in_ok-next_step.field-0 c.in_ok-next_step.ensures

pub returns : goal.returns
returns c =
    let t = c.args.self.now in
    taken_at (sheet_in t) (nodes_of t) (situation t) c.args.strand.0 c.in_ok-next_step.field-0 c.effect.result c.in_ok-next_step.ensures c.effect.ensures
