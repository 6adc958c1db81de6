use Rattle.std.proofs.Common.{rules, arith, length, Some, ap, subst, sym, ◌∙◌}
use Rattle.std.proofs.lemmas.List.{length-map}
use Rattle.terms.specs.Nodes.{term}
use Rattle.terms.specs.declared.number.NodeNo.{NodeNo}
use Rattle.pages.specs.Pages.{nodes_on}
use Rattle.bench.specs.Places.{situation_in, HeldIn}
use Rattle.bench.specs.Steps.{Turned}
use Rattle.bench.specs.Tables.{sheet_in, nodes_of, situation, protocol_in}
use Rattle.bench.proofs.Places.{count_small, extends_kept}
use Rattle.bench.proofs.Growth.{extends_held, extends_placed, held_push, wrote_situation, writing_reached}
use Rattle.bench.proofs.tables.Tables.write.Goals as goal

pub put-page-requires-clause-room : goal.put-page-requires-clause-room
put-page-requires-clause-room c = omega (arith, count_small c.args.self.now.placed, c.args.self.now.few_nodes)

pub invariant_of-self-clause-values_held : goal.invariant_of-self-clause-values_held
invariant_of-self-clause-values_held c = extends_kept _ _ _ c.put-page.ensures.0 c.args.self.now.values_held

pub invariant_of-self-clause-placed_held : goal.invariant_of-self-clause-placed_held
invariant_of-self-clause-placed_held c = extends_kept _ _ _ c.put-page.ensures.0 c.args.self.now.placed_held

pub invariant_of-self-clause-run_held : goal.invariant_of-self-clause-run_held
invariant_of-self-clause-run_held c = extends_held _ _ _ c.put-page.ensures.0 c.args.self.now.run_held

pub invariant_of-self-clause-written_held : goal.invariant_of-self-clause-written_held
invariant_of-self-clause-written_held c =
    let t = c.args.self.now in
    subst (HeldIn (nodes_on c.put-page.new.pages)) (sym c.push_reserved.ensures.items) (held_push _ t.written.items c.put-page.result (extends_held _ _ _ c.put-page.ensures.0 t.written_held) c.put-page.ensures.2)

pub invariant_of-self-clause-told : goal.invariant_of-self-clause-told
invariant_of-self-clause-told c =
    let t = c.args.self.now in
    extends_placed _ _ _ _ _ c.put-page.ensures.0 t.values_held t.placed_held t.told

pub invariant_of-self-clause-reached : goal.invariant_of-self-clause-reached
invariant_of-self-clause-reached c =
    let t = c.args.self.now in
    let turned : Turned (length (sheet_in t).names) (nodes_of t) t.written.items c.args.node (Some c.in_ok-node.node) = search rules in
    let e = ap (situation_in (nodes_on c.put-page.new.pages) t.standings.items t.values t.run.items) c.push_reserved.ensures.items ∙ wrote_situation _ _ _ _ _ _ c.put-page.result c.args.node c.in_ok-node.node c.put-page.ensures.0 t.values_held t.run_held t.written_held c.put-page.ensures.3 turned.2 in
    writing_reached (length (sheet_in t).names) (protocol_in t) (situation t) _ c.args.node t.reached turned.0 e

pub returns-clause-wrote : goal.returns-clause-wrote
returns-clause-wrote c =
    let t = c.args.self.now in
    let turned : Turned (length (sheet_in t).names) (nodes_of t) t.written.items c.args.node (Some c.in_ok-node.node) = search rules in
    let long = length-map t.written.items (λ (p : NodeNo). term (nodes_of t) p.0) in
    let e = ap (situation_in (nodes_on c.put-page.new.pages) t.standings.items t.values t.run.items) c.push_reserved.ensures.items ∙ wrote_situation _ _ _ _ _ _ c.put-page.result c.args.node c.in_ok-node.node c.put-page.ensures.0 t.values_held t.run_held t.written_held c.put-page.ensures.3 turned.2 in
    (turned.0, omega (arith, long), omega (arith, long), e)
