-- What pages say, as the list that they mean does: none, one page more, and what is read of one.
use Rattle.std.proofs.Common.{◌≡◌, ℕ, ◌<◌, ◌≤◌, List, [], ◌∷◌, ◌++◌, length, Some, None, Option, Bor, option_copied, ◌≢◌, slice_index_or, sym, ap, subst, ◌∙◌, arith}
use Rattle.std.specs.Prelude.{MatchOption, unwrap_or}
use Rattle.std.specs.List.{AllWithin, HoldsAt}
use Rattle.std.specs.Slice.{IsItemAt}
use Rattle.std.proofs.lemmas.Bool.{ltb-true, ltb-false}
use Rattle.std.proofs.lemmas.List.{length-map, map_push, get_or-map, get_or_default}
use Rattle.terms.specs.Nodes.{node, no_node, says, term, Below, Ordered}
use Rattle.terms.specs.declared.node.Node.{Node}
use Rattle.terms.proofs.Unfolding.{unfolds}
use Rattle.analysis.specs.Places.{first, firsts}
use Rattle.analysis.proofs.Finding.{first_at}
use Rattle.notebook.specs.Calls.{Lawful}
use Rattle.notebook.specs.Limits.{most_nodes}
use Rattle.pages.specs.declared.page.Page.{Page}
use Rattle.pages.specs.declared.page.PageTable.{PageTable}
use Rattle.pages.specs.Columns.{AllLawful, nodes_in, firsts_in}
use Rattle.pages.specs.Pages.{nodes_on, PageAt}
use Rattle.pages.proofs.Rows.{lawful_ordered, below_wider, first_of, first_found, first_new}
use Rattle.pages.proofs.Rows as rows

-- there are as many nodes as pages
length_nodes : (ps : List Page) → length (nodes_in ps) ≡ length ps
length_nodes ps = length-map ps (λ p. p.node)

-- none
pub none_lawful : (ps : List Page) → ps ≡ [] → AllLawful (nodes_in ps)
none_lawful ps e = rows.none_lawful (nodes_in ps) (ap nodes_in e)

pub none_firsts : (ps : List Page) → ps ≡ [] → firsts_in ps ≡ firsts (nodes_in ps)
none_firsts ps e = rows.none_firsts (nodes_in ps) (firsts_in ps) (ap nodes_in e) (ap firsts_in e)

-- one page more
push_nodes : (ps qs : List Page) (p : Page) → qs ≡ ps ++ (p ∷ []) → nodes_in qs ≡ nodes_in ps ++ (p.node ∷ [])
push_nodes ps qs p e = ap nodes_in e ∙ map_push (λ x. x.node) ps p

pub push_lawful : (ps qs : List Page) (p : Page) → AllLawful (nodes_in ps) → Lawful (length (nodes_in ps)) p.node → qs ≡ ps ++ (p ∷ []) → AllLawful (nodes_in qs)
push_lawful ps qs p h l e = rows.push_lawful (nodes_in ps) (nodes_in qs) p.node h l (push_nodes ps qs p e)

pub push_firsts : (ps qs : List Page) (p : Page) → firsts_in ps ≡ firsts (nodes_in ps) → p.first.0 ≡ first (nodes_in ps) (says (term (nodes_in ps)) p.node) → qs ≡ ps ++ (p ∷ []) → firsts_in qs ≡ firsts (nodes_in qs)
push_firsts ps qs p e d m =
    rows.push_firsts (nodes_in ps) (nodes_in qs) p.node (firsts_in ps) (firsts_in qs) p.first e d (push_nodes ps qs p m) (ap firsts_in m ∙ map_push (λ x. x.first) ps p)

-- there are no more nodes than a notebook has
pub few_nodes : (t : PageTable) → length (nodes_on t) ≤ most_nodes
few_nodes t = let n = t.list.ok.0 in omega (arith, t.few, length_nodes t.list.items)

-- what is read of a page
pub page_ordered : (p : PageTable) → Ordered (nodes_on p)
page_ordered p = lawful_ordered (nodes_on p) p.lawful

page_node : (p : PageTable) (i : ℕ) (x : Page) → i < length (nodes_on p) → x ≡ slice_index_or p.list.items i x → node (nodes_on p) i ≡ x.node
page_node p i x l e =
    let k : i < length p.list.items = omega (arith, length_nodes p.list.items) in
    get_or-map (λ q. q.node) p.list.items i x no_node k ∙ sym (ap (λ (q : Page). q.node) e)

pub node_below : (p : PageTable) (i : ℕ) (x : Page) → i < length (nodes_on p) → x ≡ slice_index_or p.list.items i x → Below i x.node
node_below p i x l e = subst (Below i) (page_node p i x l e) (page_ordered p i l)

-- the term at a place is what its node says
pub page_says : (p : PageTable) (i : ℕ) (n : Node) → i < length (nodes_on p) → n ≡ node (nodes_on p) i → term (nodes_on p) i ≡ says (term (nodes_on p)) n
page_says p i n l e = unfolds (nodes_on p) (page_ordered p) i l ∙ ap (says (term (nodes_on p))) (sym e)

pub node_says : (p : PageTable) (i : ℕ) (x : Page) → i < length (nodes_on p) → x ≡ slice_index_or p.list.items i x → term (nodes_on p) i ≡ says (term (nodes_on p)) x.node
node_says p i x l e = page_says p i x.node l (sym (page_node p i x l e))

pub page_first : (p : PageTable) (i : ℕ) (x : Page) → i < length (nodes_on p) → x ≡ slice_index_or p.list.items i x → x.first.0 ≡ first (nodes_on p) (term (nodes_on p) i)
page_first p i x l e =
    let k : i < length p.list.items = omega (arith, length_nodes p.list.items) in
    first_of (nodes_on p) (firsts_in p.list.items) i x.first p.places l (ap (λ (q : Page). q.first) e ∙ sym (get_or-map (λ q. q.first) p.list.items i x x.first k))

pub first_within : (p : PageTable) (i : ℕ) → i < length (nodes_on p) → first (nodes_on p) (term (nodes_on p) i) < length (nodes_on p)
first_within p i l = let f = (first_at (nodes_on p) i l).0 in omega arith

-- a page that holds the term that a node says, and one that does not
abbrev pub IsOf : PageTable → Node → Page → Type 0
IsOf p n q = says (term (nodes_on p)) q.node ≡ says (term (nodes_on p)) n

abbrev pub IsNotOf : PageTable → Node → Page → Type 0
IsNotOf p n q = says (term (nodes_on p)) q.node ≢ says (term (nodes_on p)) n

-- the parts of a page's node are held
pub page_below : (p : PageTable) (i : ℕ) (x : Page) → i < length p.list.items → x ≡ slice_index_or p.list.items i x → Below (length (nodes_on p)) x.node
page_below p i x l e =
    let h : i < length (nodes_on p) = omega (arith, length_nodes p.list.items) in
    below_wider i (length (nodes_on p)) x.node (omega arith) (node_below p i x h e)

says_at : (p : PageTable) (i : ℕ) (d : Page) → i < length p.list.items → term (nodes_on p) i ≡ says (term (nodes_on p)) (slice_index_or p.list.items i d).node
says_at p i d l =
    let x = slice_index_or p.list.items i d in
    node_says p i x (omega (arith, length_nodes p.list.items)) (get_or_default p.list.items i d x l)

no_page : Page
no_page = record { node = no_node; first = record { 0 = 0 } }

-- the first page that holds the term of a node, or their number
pub first_is : (p : PageTable) (n : Node) (r : Option ℕ)
    → MatchOption r (AllWithin (IsNotOf p n) p.list.items 0 (length p.list.items)) (λ i. (i < length p.list.items) × HoldsAt (IsOf p n) p.list.items i × AllWithin (IsNotOf p n) p.list.items 0 i)
    → unwrap_or r (length p.list.items) ≡ first (nodes_on p) (says (term (nodes_on p)) n)
first_is p n None h = first_new (nodes_on p) n (length p.list.items) (sym (length_nodes p.list.items)) (λ k l t. h k no_page (omega arith) l (sym (says_at p k no_page l) ∙ t))
first_is p n (Some i) (l, s, h) =
    let m : i < length (nodes_on p) = omega (arith, length_nodes p.list.items) in
    first_found (nodes_on p) n i (page_ordered p) m (sym (unfolds (nodes_on p) (page_ordered p) i m) ∙ says_at p i no_page l ∙ s no_page)
    (λ k z t. h k no_page (omega arith) z (sym (says_at p k no_page (omega arith)) ∙ t))

-- what is read of a page, or that there is none
pub page_at : (t : PageTable) (i : ℕ) (r : Option (Bor Page)) → IsItemAt t.list.items i r → PageAt (nodes_on t) i (option_copied r)
page_at t i None h = omega (arith, length_nodes t.list.items, ltb-false _ _ (sym h.0))
page_at t i (Some x) h =
    let l : i < length (nodes_on t) = omega (arith, length_nodes t.list.items, ltb-true _ _ (sym h.0)) in
    (l, sym (page_node t i x.now l h.1), page_first t i x.now l h.1)
