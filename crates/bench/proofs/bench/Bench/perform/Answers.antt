use Rattle.std.proofs.Common.{◌++◌, ◌∷◌, [], List, ℕ, sym, ap, ◌∙◌}
use Rattle.bench.proofs.Calling.{noted_acted, step_noted}
use Rattle.bench.proofs.bench.Bench.perform.Goals as goal

pub invariant_of-self-in-Some-clause-nodes : goal.invariant_of-self-in-Some-clause-nodes
invariant_of-self-in-Some-clause-nodes g c =
    let b = c.args.self.now in
    let n = step_noted b.tables c.args.strand.0 c.args.effect c.in-Some.action _ _ _ _ c.note.result c.requires.held c.requires.performs c.in-Some.ensures (c.perform.ensures.grown.0, c.copy.ensures.nodes ∙ c.perform.ensures.grown.1) (c.copy.ensures.noted ∙ b.noted) c.note.ensures in
    n.1 ∙ c.copy.ensures.nodes

pub invariant_of-self-in-Some-clause-noted : goal.invariant_of-self-in-Some-clause-noted
invariant_of-self-in-Some-clause-noted g c =
    let b = c.args.self.now in
    let n = step_noted b.tables c.args.strand.0 c.args.effect c.in-Some.action _ _ _ _ c.note.result c.requires.held c.requires.performs c.in-Some.ensures (c.perform.ensures.grown.0, c.copy.ensures.nodes ∙ c.perform.ensures.grown.1) (c.copy.ensures.noted ∙ b.noted) c.note.ensures in
    n.2 ∙ ap (λ (l : List ℕ). l ++ (c.in-Some.action.node.0 ∷ [])) (c.copy.ensures.noted ∙ b.noted) ∙ sym (noted_acted b.tables.run.items _ _ c.in-Some.action c.perform.ensures.run c.in-Some.ensures)

pub unwrap-requires : goal.unwrap-requires
unwrap-requires g c =
    let b = c.args.self.now in
    (step_noted b.tables c.args.strand.0 c.args.effect c.in-Some.action _ _ _ _ c.note.result c.requires.held c.requires.performs c.in-Some.ensures (c.perform.ensures.grown.0, c.copy.ensures.nodes ∙ c.perform.ensures.grown.1) (c.copy.ensures.noted ∙ b.noted) c.note.ensures).0
