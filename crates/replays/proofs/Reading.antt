-- What the reader of run files refuses.
use Rattle.std.proofs.Common.{◌≡◌, ℕ, ◌<◌, sym, ◌∙◌, subst, arith}
use Rattle.records.specs.Bytes.{Rec}
use Rattle.replays.specs.Lines.{Line, node, rec, InOrder}
use Rattle.replays.proofs.Once.{line_one}

-- a node after a step is out of order, however its record is read
pub late_node : (x : Rec) (s k a b : ℕ) → rec (node k a b) ≡ x → 0 < s → (l : Line) → rec l ≡ x → ¬ InOrder s l
late_node x s k a b e g l h i =
    let q = line_one l (node k a b) (h ∙ sym e) in
    let z : InOrder s (node k a b) = subst (InOrder s) q i in
    omega (arith, g, z)
