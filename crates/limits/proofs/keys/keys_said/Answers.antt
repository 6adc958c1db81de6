use Rattle.std.proofs.Common.{◌∙◌, ap, sym}
use lib.Bits.{bit_or}
use Rattle.terms.specs.Bits.{varset}
use Rattle.terms.specs.Nodes.{term}
use Rattle.terms.specs.Tables.{nodes_in}
use Rattle.limits.specs.Keys.{key_says, set_at}
use Rattle.limits.proofs.Keying.{gathered_set}
use Rattle.limits.proofs.keys.keys_said.Goals as goal

pub returns-in-Seal : goal.returns-in-Seal
returns-in-Seal c =
    let locks = gathered_set (nodes_in c.args.nodes.now) c.in-Seal.key.0 c.unwrap-locks.result (rw c.unwrap-locks.ensures at c.variables.ensures) in
    c.union-in-Seal.ensures
    ∙ ap (bit_or (set_at c.args.keys.now c.in-Seal.body.0)) locks
    ∙ sym (ap (key_says (set_at c.args.keys.now) (λ i. varset (term (nodes_in c.args.nodes.now) i))) c.in-Seal.is)
