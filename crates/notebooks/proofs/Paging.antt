-- What a notebook's pages say, as the lists that they mean do: a node taken apart, the noted places, and the answers.
use Rattle.std.proofs.Common.{◌≡◌, ℕ, ◌+◌, ◌<◌, ◌||◌, Bool, true, List, length, get_or, take, slice_index, sym, ap, subst, subst₂, ◌∙◌, arith}
use Rattle.std.proofs.lemmas.Bool.Decides.{Decides-at}
use Rattle.terms.specs.Nodes.{node, term}
use Rattle.terms.specs.declared.node.Node.{Node}
use Rattle.terms.specs.declared.node.Node.TheVariants.{Pair, Seal}
use Rattle.terms.specs.declared.number.NodeNo.{NodeNo}
use Rattle.analysis.specs.Places.{first}
use Rattle.analysis.specs.Parts.{Parts, knows, opens, composed}
use Rattle.analysis.specs.Marks.{Marked, Spread, Noting}
use Rattle.analysis.proofs.Marking.{noting_more, spread_pair, spread_seal}
use Rattle.analysis.proofs.Deciding.{decided}
use Rattle.notebook.specs.Calls.{Derivable}
use Rattle.pages.proofs.Paging.{page_ordered, first_within}
use Rattle.notebooks.specs.declared.noted.Pages.{Pages}
use Rattle.notebooks.specs.Lists.{nodes_of, noted_of}
use Rattle.notebooks.specs.Paging.{length_numbers}
use Rattle.notebooks.proofs.Rows.{number_at, pair_held, seal_held}

-- a pair, or a seal under a name that is known, taken apart
pub pair_spread : (p : Pages) (i : ℕ) (x y : NodeNo) (ns : List Node) (a b c : List Bool) (r q : Bool) → i < length (nodes_of p) → Pair x y ≡ node (nodes_of p) i → length a ≡ length (nodes_of p) → ns ≡ nodes_of p → knows (nodes_of p) a (term (nodes_of p) i) ≡ true → Marked a (first (nodes_of p) (term (nodes_of p) x.0)) b r → Marked b (first ns (term ns y.0)) c q → Spread (nodes_of p) a i c (r || q)
pair_spread p i x y ns a b c r q l e z f h m n =
    let s = pair_held (nodes_of p) p.table.lawful i x y l (sym e) in
    let u = first_within p.table x.0 s.0 in
    let v = first_within p.table y.0 s.1 in
    spread_pair (nodes_of p) (page_ordered p.table) i l x y (sym e) a b c r q (omega arith) (omega arith) h m
    (subst (λ (w : List Node). Marked b (first w (term w y.0)) c q) f n)

pub seal_spread : (p : Pages) (i : ℕ) (x y : NodeNo) (a b : List Bool) (r : Bool) → i < length (nodes_of p) → Seal x y ≡ node (nodes_of p) i → length a ≡ length (nodes_of p) → knows (nodes_of p) a (term (nodes_of p) i) ≡ true → opens (knows (nodes_of p) a) (term (nodes_of p) y.0) ≡ true → Marked a (first (nodes_of p) (term (nodes_of p) x.0)) b r → Spread (nodes_of p) a i b r
seal_spread p i x y a b r l e z h k m =
    let s = seal_held (nodes_of p) p.table.lawful i x y l (sym e) in
    let u = first_within p.table x.0 s.0 in
    spread_seal (nodes_of p) (page_ordered p.table) i l x y (sym e) a b r (omega arith) h k m

-- the noted place that a turn reads
pub place_held : (p : Pages) (ps : List NodeNo) (k : ℕ) (d : NodeNo) → ps ≡ p.notes.items → k < length ps → (get_or ps k d).0 < length (nodes_of p)
place_held p ps k d e l =
    let h : k < length (noted_of p) = omega (arith, length_numbers p.notes.items, ap length e) in
    let r : (get_or ps k d).0 ≡ slice_index (noted_of p) k = ap (λ (x : List NodeNo). (get_or x k d).0) e ∙ sym (number_at p.notes.items k d (omega (arith, ap length e))) in
    omega (arith, p.held k h)

pub place_noting : (p : Pages) (ns : List Node) (ps : List NodeNo) (k : ℕ) (d : NodeNo) (a b : List Bool) (r : Bool) → ns ≡ nodes_of p → ps ≡ p.notes.items → k < length ps → length a ≡ length ns → Noting (nodes_of p) (take k (noted_of p)) a → Marked a (first ns (term ns (get_or ps k d).0)) b r → Noting (nodes_of p) (take (k + 1) (noted_of p)) b
place_noting p ns ps k d a b r e f l z n m =
    let h : k < length (noted_of p) = omega (arith, length_numbers p.notes.items, ap length f) in
    let g : (get_or ps k d).0 ≡ slice_index (noted_of p) k = ap (λ (x : List NodeNo). (get_or x k d).0) f ∙ sym (number_at p.notes.items k d (omega (arith, ap length f))) in
    let w = first_within p.table (slice_index (noted_of p) k) (p.held k h) in
    noting_more (nodes_of p) (noted_of p) k a b r h (omega (arith, ap length e)) n (subst₂ (λ (x : List Node) (y : ℕ). Marked a (first x (term x y)) b r) e g m)

-- what is put together from the parts is what is derivable
pub parts_answer : (p : Pages) (ns : List Node) (known : List Bool) (place : NodeNo) (r : Bool) → ns ≡ nodes_of p → place.0 < length (nodes_of p) → Parts (nodes_of p) (noted_of p) known → r ≡ composed (knows ns known) (term ns place.0) → Derivable (nodes_of p) (noted_of p) place r
parts_answer p ns known place r e l q c =
    let t = term (nodes_of p) place.0 in
    let d = Decides-at r (composed (knows (nodes_of p) known) t) (rw e at c) (decided (nodes_of p) (noted_of p) known (page_ordered p.table) p.held q t) in
    (λ h. (l, d.0 h), λ h. d.1 h.1)
