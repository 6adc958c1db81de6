-- What the page at a place tells of the term there.
use Rattle.std.proofs.Common.{◌≡◌, ℕ, ◌<◌, List, length, Some, None, Option, sym, subst, ◌∙◌, arith}
use Rattle.terms.specs.Terms.{pair, seal}
use Rattle.terms.specs.Nodes.{says, term, Below}
use Rattle.terms.specs.declared.node.Node.{Node}
use Rattle.terms.specs.declared.node.Node.TheVariants.{Name, Env, Var, Pair, Seal}
use Rattle.terms.specs.declared.number.NodeNo.{NodeNo}
use Rattle.pages.specs.declared.page.Page.{Page}
use Rattle.pages.specs.declared.page.PageTable.{PageTable}
use Rattle.pages.specs.Pages.{nodes_on, PageAt}
use Rattle.pages.proofs.Paging.{page_says, page_ordered}
use Rattle.judging.specs.Places.{PartsAt}

-- the halves, or the body and the key, that a node has
abbrev pub halves : Node → Option (NodeNo × NodeNo)
halves (Name n) = None
halves (Env e) = None
halves (Var x) = None
halves (Pair a b) = Some (a, b)
halves (Seal b k) = None

abbrev pub sealed : Node → Option (NodeNo × NodeNo)
sealed (Name n) = None
sealed (Env e) = None
sealed (Var x) = None
sealed (Pair a b) = None
sealed (Seal b k) = Some (b, k)

page_below : (t : PageTable) (i : ℕ) (x : Page) → PageAt (nodes_on t) i (Some x) → Below i x.node
page_below t i x h = subst (Below i) (sym h.1) (page_ordered t i h.0)

halves_told : (ns : List Node) (i : ℕ) (n : Node) → i < length ns → Below i n → term ns i ≡ says (term ns) n → PartsAt pair ns i (halves n)
halves_told ns i (Name n) l b e = λ c d f. grind (arith, sym e ∙ f)
halves_told ns i (Env n) l b e = λ c d f. grind (arith, sym e ∙ f)
halves_told ns i (Var n) l b e = λ c d f. grind (arith, sym e ∙ f)
halves_told ns i (Pair p q) l b e = (omega (arith, l, b.0), omega (arith, l, b.1), e)
halves_told ns i (Seal p q) l b e = λ c d f. grind (arith, sym e ∙ f)

sealed_told : (ns : List Node) (i : ℕ) (n : Node) → i < length ns → Below i n → term ns i ≡ says (term ns) n → PartsAt seal ns i (sealed n)
sealed_told ns i (Name n) l b e = λ c d f. grind (arith, sym e ∙ f)
sealed_told ns i (Env n) l b e = λ c d f. grind (arith, sym e ∙ f)
sealed_told ns i (Var n) l b e = λ c d f. grind (arith, sym e ∙ f)
sealed_told ns i (Pair p q) l b e = λ c d f. grind (arith, sym e ∙ f)
sealed_told ns i (Seal p q) l b e = (omega (arith, l, b.0), omega (arith, l, b.1), e)

pub pair_told : (t : PageTable) (i : ℕ) (x : Page) → PageAt (nodes_on t) i (Some x) → PartsAt pair (nodes_on t) i (halves x.node)
pair_told t i x h = halves_told (nodes_on t) i x.node h.0 (page_below t i x h) (page_says t i x.node h.0 h.1)

pub seal_told : (t : PageTable) (i : ℕ) (x : Page) → PageAt (nodes_on t) i (Some x) → PartsAt seal (nodes_on t) i (sealed x.node)
seal_told t i x h = sealed_told (nodes_on t) i x.node h.0 (page_below t i x h) (page_says t i x.node h.0 h.1)

-- what a node is, tells whether its place has a pair or a seal
pub is_pair : (t : PageTable) (i : ℕ) (x : Page) (a b : NodeNo) → PageAt (nodes_on t) i (Some x) → x.node ≡ Pair a b → PartsAt pair (nodes_on t) i (Some (a, b))
is_pair t i x a b h e = subst (λ (n : Node). PartsAt pair (nodes_on t) i (halves n)) e (pair_told t i x h)

pub is_seal : (t : PageTable) (i : ℕ) (x : Page) (a b : NodeNo) → PageAt (nodes_on t) i (Some x) → x.node ≡ Seal a b → PartsAt seal (nodes_on t) i (Some (a, b))
is_seal t i x a b h e = subst (λ (n : Node). PartsAt seal (nodes_on t) i (sealed n)) e (seal_told t i x h)

pub no_pair : (t : PageTable) (i : ℕ) (x : Page) → PageAt (nodes_on t) i (Some x) → halves x.node ≡ None → PartsAt pair (nodes_on t) i None
no_pair t i x h e = subst (PartsAt pair (nodes_on t) i) e (pair_told t i x h)

pub no_seal : (t : PageTable) (i : ℕ) (x : Page) → PageAt (nodes_on t) i (Some x) → sealed x.node ≡ None → PartsAt seal (nodes_on t) i None
no_seal t i x h e = subst (PartsAt seal (nodes_on t) i) e (seal_told t i x h)
