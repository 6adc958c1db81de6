-- What is written, and what a node more does.
use Rattle.std.proofs.Common.{◌≡◌, ℕ, ◌<◌, List, length, slice_index_or, Some, None, Option, Bor, option_copied, sym, ap, subst, ◌∙◌, arith}
use Rattle.std.specs.Slice.{IsItemAt}
use Rattle.std.proofs.lemmas.Bool.{ltb-true, ltb-false}
use Rattle.std.proofs.lemmas.List.{get_or-map, get_or_read}
use Rattle.terms.specs.Terms.{name}
use Rattle.terms.specs.Nodes.{term}
use Rattle.terms.specs.declared.node.Node.{Node}
use Rattle.terms.specs.declared.number.NodeNo.{NodeNo}
use Rattle.bench.specs.Places.{HeldIn}
use Rattle.bench.specs.Steps.{PageOf}
use Rattle.bench.specs.Tables.{nodes_of}
use Rattle.bench.specs.declared.tables.Tables.{Tables}

page_told : (ns : List Node) (ws : List NodeNo) (q : ℕ) (r : Option (Bor NodeNo)) → HeldIn ns ws → IsItemAt ws q r → PageOf ns ws q (option_copied r)
page_told ns ws q None h i = omega (arith, ltb-false _ _ (sym i.0))
page_told ns ws q (Some x) h i =
    let l : q < length ws = omega (arith, ltb-true _ _ (sym i.0)) in
    let e : x.now ≡ slice_index_or ws q (record { 0 = 0 }) = get_or_read ws q x.now l i.1 (record { 0 = 0 }) in
    (l, subst (λ (p : NodeNo). p.0 < length ns) (sym e) (h q l), get_or-map (λ (p : NodeNo). term ns p.0) ws q (record { 0 = 0 }) (name 0) l ∙ ap (λ (p : NodeNo). term ns p.0) (sym e))

pub page_of : (t : Tables) (q : ℕ) (r : Option (Bor NodeNo)) → IsItemAt t.written.items q r → PageOf (nodes_of t) t.written.items q (option_copied r)
page_of t q r i = page_told (nodes_of t) t.written.items q r t.written_held i
