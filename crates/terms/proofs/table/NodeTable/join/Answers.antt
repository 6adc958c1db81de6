use Rattle.std.proofs.Common.{length, vec_items, ap, ◌∙◌, ap₂, arith}
use lib.Bits.{bit_or}
use Rattle.terms.proofs.Gathering.{length_sets, set_at}
use Rattle.terms.proofs.table.NodeTable.join.Goals as goal

pub index-requires : goal.index-requires
index-requires c =
    let s = c.args.self.now in
    let l = ap length s.gathered ∙ length_sets (vec_items s.nodes) in
    let v = s.variables.ok.0 in
    omega (arith, c.requires.0)

pub index-requires-2 : goal.index-requires-2
index-requires-2 c =
    let s = c.args.self.now in
    let l = ap length s.gathered ∙ length_sets (vec_items s.nodes) in
    let v = s.variables.ok.0 in
    omega (arith, c.requires.1)

pub returns : goal.returns
returns c =
    let s = c.args.self.now in
    c.union.ensures
    ∙ ap₂ bit_or (set_at _ _ _ _ s.gathered c.requires.0 c.index.ensures) (set_at _ _ _ _ s.gathered c.requires.1 c.index-2.ensures)
