use Rattle.std.proofs.Common.{◌≡◌, ℕ, List, sym, subst}
use Rattle.terms.specs.Nodes.{term}
use Rattle.terms.specs.Tables.{nodes_in}
use Rattle.terms.specs.Terms.{Message}
use Rattle.terms.specs.declared.node.Node.{Node}
use Rattle.matching.specs.Matchings.{nodes_of, bound}
use Rattle.limits.specs.Beginnings.{StepFits}
use Rattle.limits.specs.Demands.{WithMessage}
use Rattle.limits.proofs.Beginnings.{equal_answered, output_answered}
use Rattle.limits.proofs.walk.ask.Goals as goal

pub returns-in-Output-clause-answer : goal.returns-in-Output-clause-answer
returns-in-Output-clause-answer c =
    let ns : List Node = nodes_of c.args.m.now in
    let e : nodes_in c.args.nodes.now.nodes ≡ ns = sym c.requires.nodes in
    output_answered ns (bound c.args.m.now) c.args.d c.with_message.result c.args.step c.in-Output.label c.in-Output.node c.in-Output.is (subst (λ (ms : List Node). (i : ℕ) → Message (term ms i)) e c.requires.said) (subst (λ (ms : List Node). WithMessage c.args.d (term ms c.in-Output.node.0) c.with_message.result) e c.with_message.ensures)

pub returns-in-Open-clause-answer : goal.returns-in-Open-clause-answer
returns-in-Open-clause-answer c =
    let ns : List Node = nodes_of c.args.m.now in
    let e : nodes_in c.args.nodes.now.nodes ≡ ns = sym c.requires.nodes in
    let answer = rw c.unwrap.ensures at c.matches.ensures.answer in
    rw c.then_some.ensures (equal_answered ns (bound c.args.m.now) c.args.d c.args.step c.in-Open.a c.in-Open.b c.unwrap.result (bound c.matches.new.self) c.in-Open.is (subst (λ (ms : List Node). StepFits ms c.args.step) e c.requires.fits) answer)
