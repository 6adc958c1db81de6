use Rattle.std.proofs.Common.{ap, ◌∙◌}
use Rattle.protocol.specs.Strands.{step_of}
use Rattle.bench.specs.Tables.{sheet_in, nodes_of}
use Rattle.bench.proofs.Taken.{taken, opens_by, splits_by}
use Rattle.bench.proofs.tables.Tables.effect.Goals as goal

pub returns-in-Output : goal.returns-in-Output
returns-in-Output c = taken (nodes_of c.args.self.now) _ _ _ _ _ _ (ap (step_of (sheet_in c.args.self.now).nodes) c.in-Output.is) (λ i. i) c.ok_or.ensures.value c.sending.ensures

pub returns-in-Open : goal.returns-in-Open
returns-in-Open c =
    let ss = (sheet_in c.args.self.now).nodes in
    let e = ap (step_of ss) c.in-Open.is ∙ opens_by ss c.in-Open.subject c.in-Open.pattern c.unwrap.result (rw c.unwrap.ensures at c.open_pattern.ensures) in
    taken (nodes_of c.args.self.now) _ _ _ _ _ _ e (λ i. i) c.ok_or-in-Open.ensures.value c.opening.ensures

pub returns-in-Split : goal.returns-in-Split
returns-in-Split c =
    let ss = (sheet_in c.args.self.now).nodes in
    let e = ap (step_of ss) c.in-Split.is ∙ splits_by ss c.in-Split.subject c.in-Split.pattern c.unwrap-in-Split.result (rw c.unwrap-in-Split.ensures at c.split_pattern.ensures) in
    taken (nodes_of c.args.self.now) _ _ _ _ _ _ e (λ i. i) c.ok_or-in-Split.ensures.value c.splitting.ensures

pub returns-in-Same : goal.returns-in-Same
returns-in-Same c = taken (nodes_of c.args.self.now) _ _ _ _ _ _ (ap (step_of (sheet_in c.args.self.now).nodes) c.in-Same.is) (λ i. i) c.ok_or-in-Same.ensures.value c.agreeing.ensures
