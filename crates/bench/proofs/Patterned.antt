-- The patterns of a sheet's opens and splits.
use Rattle.std.proofs.Common.{◌≡◌, ℕ, ◌<◌, length, Some, sym, ap, ap₂, subst, ◌∙◌, arith}
use Rattle.terms.specs.Terms.{Term, pair, seal}
use Rattle.terms.specs.Nodes.{node, says, term, Below}
use Rattle.terms.specs.declared.node.Node.{Node}
use Rattle.terms.specs.declared.node.Node.TheVariants.{Var, Pair, Seal}
use Rattle.terms.specs.declared.number.NodeNo.{NodeNo}
use Rattle.terms.specs.declared.number.Variable.{Variable}
use Rattle.terms.proofs.Unfolding.{unfolds}
use Rattle.sheet.specs.Sheets.{content_of}
use Rattle.sheet.specs.declared.sheet.Sheet.{Sheet}
use Rattle.bench.specs.Places.{PlainNode}
use Rattle.bench.specs.Effects.{OpenedBy, SplitBy}
use Rattle.bench.proofs.Places.{sheet_plain, sheet_ordered}

node_says : (s : Sheet) (i : ℕ) (n : Node) → i < length (content_of s).nodes → n ≡ node (content_of s).nodes i → (term (content_of s).nodes i ≡ says (term (content_of s).nodes) n) × Below i n × PlainNode n
node_says s i n l e =
    let ss = (content_of s).nodes in
    (unfolds ss (sheet_ordered s) i l ∙ ap (says (term ss)) (sym e), subst (Below i) (sym e) (sheet_ordered s i l), subst PlainNode (sym e) (sheet_plain s i l))

pub opened_by : (s : Sheet) (i : ℕ) (b k : NodeNo) (x : Variable) → i < length (content_of s).nodes → Seal b k ≡ node (content_of s).nodes i → Var x ≡ node (content_of s).nodes b.0 → OpenedBy (content_of s).nodes i (Some (x, k))
opened_by s i b k x l e f =
    let p = node_says s i (Seal b k) l e in
    let h : b.0 < length (content_of s).nodes = omega (arith, l, p.1.0) in
    let q = node_says s b.0 (Var x) h f in
    (q.2, omega (arith, l, p.1.1), p.0 ∙ ap (λ (t : Term). seal t (term (content_of s).nodes k.0)) q.0)

pub split_by : (s : Sheet) (i : ℕ) (a b : NodeNo) (x y : Variable) → i < length (content_of s).nodes → Pair a b ≡ node (content_of s).nodes i → Var x ≡ node (content_of s).nodes a.0 → Var y ≡ node (content_of s).nodes b.0 → SplitBy (content_of s).nodes i (Some (x, y))
split_by s i a b x y l e f g =
    let p = node_says s i (Pair a b) l e in
    let h : a.0 < length (content_of s).nodes = omega (arith, l, p.1.0) in
    let k : b.0 < length (content_of s).nodes = omega (arith, l, p.1.1) in
    let q = node_says s a.0 (Var x) h f in
    let r = node_says s b.0 (Var y) k g in
    (q.2, r.2, p.0 ∙ ap₂ pair q.0 r.0)
