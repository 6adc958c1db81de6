use Rattle.std.proofs.Common.{sym, ◌∙◌}
use Rattle.std.proofs.lemmas.Bool.{false≢true}
use Rattle.bench.specs.Tables.{nodes_of}
use Rattle.bench.proofs.Taken.{open_no_value, open_no_key, open_other, open_yes}
use Rattle.bench.proofs.tables.Tables.opening.Goals as goal

pub returns-in_err-subject : goal.returns-in_err-subject
returns-in_err-subject c = rw c.from_residual.ensures (open_no_value (nodes_of c.args.self.now) _ _ _ _ _ c.in_err-subject.ensures)

pub returns-in_err-key : goal.returns-in_err-key
returns-in_err-key c = rw c.from_residual-in_err-key.ensures (open_no_key (nodes_of c.args.self.now) _ _ _ _ _ c.in_err-key.ensures)

pub returns-then-not-same : goal.returns-then-not-same
returns-then-not-same c =
    let s = c.in_ok-body.ensures in
    let k = c.in_ok-key.ensures in
    open_other (nodes_of c.args.self.now) _ _ _ _ _ _ _ _ _ c.in_ok-subject.ensures k s (λ e. false≢true (sym c.if-not-same.true ∙ c.same.ensures.1 (s.1, k.0, e)))

pub returns : goal.returns
returns c = open_yes (nodes_of c.args.self.now) _ _ _ _ _ _ _ _ _ c.requires.variable_held c.in_ok-subject.ensures c.in_ok-key.ensures c.in_ok-body.ensures (c.same.ensures.0 c.if-not-same.false).2
