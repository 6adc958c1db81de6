use Rattle.std.proofs.Common.{◌≡◌, ℕ, List, sym, subst}
use Rattle.terms.specs.Nodes.{term}
use Rattle.terms.specs.Tables.{nodes_in}
use Rattle.terms.specs.Terms.{Message}
use Rattle.terms.specs.declared.node.Node.{Node}
use Rattle.protocol.specs.Strands.{step_of}
use Rattle.unification.specs.declared.binding.Binding.{Binding}
use Rattle.matching.specs.Matchings.{nodes_of, bound, MostGeneral}
use Rattle.limits.specs.Following.{Settled}
use Rattle.limits.proofs.Beginnings.{settled_taken}
use Rattle.limits.proofs.walk.take.Goals as goal

pub returns-clause-answer : goal.returns-clause-answer
returns-clause-answer c =
    let ns : List Node = nodes_of c.args.m.now in
    let B : List Binding = bound c.ask.new.m in
    let e : nodes_in c.args.nodes.now.nodes ≡ ns = sym c.requires.nodes in
    let general : MostGeneral ns B = subst (λ (ms : List Node). MostGeneral ms B) c.in_ok-asked.ensures.nodes c.bindings.ensures.general in
    let said : ((i : ℕ) → Message (term ns i)) = subst (λ (ms : List Node). (i : ℕ) → Message (term ms i)) e c.requires.said in
    let settled : Settled ns B c.in_ok-asked.asked c.settle.result = rw (sym e, sym c.bindings.ensures.list) c.settle.ensures in
    settled_taken ns (bound c.args.m.now) c.args.d c.in_ok-asked.asked (step_of ns c.args.step) B c.settle.result general said c.in_ok-asked.ensures.answer settled
