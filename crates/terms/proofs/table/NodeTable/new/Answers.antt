use Rattle.std.proofs.Common.{length, sym, ap, ◌∙◌, arith}
use Rattle.terms.specs.Nodes.{ordered?}
use Rattle.terms.specs.Sets.{sets}
use Rattle.terms.proofs.Gathering.{sets_none}
use Rattle.terms.proofs.table.NodeTable.new.Goals as goal

pub invariant_of-result : goal.invariant_of-result
invariant_of-result c = record { ordered = ap (ordered? 0) c.new.ensures.items; gathered = c.new-2.ensures.items ∙ sym (ap sets c.new.ensures.items ∙ sets_none); narrow = (λ i x h e. absurd (omega (arith, ap length c.new.ensures.items))) }
