use Rattle.std.proofs.Common.{refl, ap, ◌∙◌}
use lib.Bits.{bit_or}
use Rattle.terms.specs.Nodes.{term}
use Rattle.terms.specs.Sets.{bits}
use Rattle.terms.specs.Tables.{nodes_in}
use Rattle.limits.proofs.Asking.{asks_atom}
use Rattle.limits.proofs.demands.Demands.with_atom.Goals as goal

pub returns : goal.returns
returns c =
    asks_atom c.args.self (record { messages = c.args.self.messages; atoms = c.union.result }) (term (nodes_in c.args.nodes.now.nodes) c.args.n.0) (c.is_atom.ensures.0 c.if-not-is_atom.false) refl (c.union.ensures ∙ ap (bit_or (bits c.args.self.atoms)) c.variables.ensures)
