use Rattle.std.proofs.Common.{List, subst}
use Rattle.protocol.specs.declared.step.Action.{Action}
use Rattle.judging.specs.Judgements.{Judgement}
use Rattle.bench.specs.Tables.{protocol_in, nodes_of}
use Rattle.bench.proofs.Judged.{has_verdict}
use Rattle.bench.proofs.ended.EndedRun.judgement.Goals as goal

pub unwrap-requires : goal.unwrap-requires
unwrap-requires c =
    let t = c.args.self.now.tables in
    has_verdict t c.judge.result (subst (λ (l : List Action). Judgement (protocol_in t) (nodes_of t) l c.judge.result) c.deref.ensures.value c.judge.ensures)
