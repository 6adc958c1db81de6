use Rattle.std.proofs.Common.{Some, refl, sym, subst}
use Rattle.terms.specs.Terms.{Message}
use Rattle.terms.specs.Nodes.{term}
use Rattle.terms.specs.declared.number.NodeNo.{NodeNo}
use Rattle.bench.specs.Effects.{ValueAt}
use Rattle.bench.specs.Tables.{sheet_in, nodes_of, situation}
use Rattle.bench.proofs.Taken.{send_no_value, send_no_message, send_yes}
use Rattle.bench.proofs.tables.Tables.sending.Goals as goal

pub returns-in_err-value_of : goal.returns-in_err-value_of
returns-in_err-value_of c = rw c.from_residual.ensures (send_no_value (nodes_of c.args.self.now) _ _ _ _ c.in_err-value_of.ensures)

pub returns-in_err-node : goal.returns-in_err-node
returns-in_err-node c = rw c.from_residual-in_err-node.ensures (send_no_message (nodes_of c.args.self.now) _ _ _ _ _ c.in_ok-value_of.ensures c.in_err-node.ensures)

pub returns : goal.returns
returns c =
    let t = c.args.self.now in
    let e = c.in_ok-node.ensures in
    let value = subst (λ (p : NodeNo). ValueAt (nodes_of t) (situation t).state.value (term (sheet_in t).nodes c.args.node.0) (Some p)) (sym e.0) c.in_ok-value_of.ensures in
    send_yes _ _ _ _ _ value (subst (λ (p : NodeNo). Message (term (nodes_of t) p.0)) (sym e.0) e.1) refl
