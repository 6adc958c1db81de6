-- Lists of lawful nodes: none, one node more, and when two places hold one term.
use Rattle.std.proofs.Common.{◌≡◌, ℕ, ◌<◌, ◌≤◌, Bool, List, [], ◌∷◌, ◌++◌, length, get_or, Decides, ◌≢◌, slice_index_or, ◌==◌, sym, ap, ap₂, subst, ◌∙◌, ⊎_elim, arith}
use Rattle.std.proofs.lemmas.List.{length_push, get_or_append_left, get_or_push}
use Rattle.std.proofs.lemmas.Bool.{cases_lt}
use Rattle.std.proofs.lemmas.Bool.Decides.{Decides-at, Decides-eqb}
use Rattle.terms.specs.Nodes.{node, no_node, says, term, terms, Below, Ordered}
use Rattle.terms.specs.declared.node.Node.{Node}
use Rattle.terms.specs.declared.node.Node.TheVariants.{Name, Env, Var, Pair, Seal}
use Rattle.terms.specs.declared.number.NodeNo.{NodeNo}
use Rattle.terms.proofs.Unfolding.{unfolds, length_terms}
use Rattle.analysis.specs.Places.{first, firsts}
use Rattle.analysis.proofs.Finding.{firsts_none, firsts_push, firsts_at, first_places, find_is, find_none}
use Rattle.notebook.specs.Calls.{Lawful}
use Rattle.pages.specs.Columns.{AllLawful}

-- the parts of a lawful node stand before it
pub lawful_below : (i : ℕ) (n : Node) → Lawful i n → Below i n
lawful_below i (Name n) l = tt
lawful_below i (Env n) l = tt
lawful_below i (Var n) l = tt
lawful_below i (Pair a b) l = l
lawful_below i (Seal a b) l = l

-- lawful nodes are in order
pub lawful_ordered : (ns : List Node) → AllLawful ns → Ordered ns
lawful_ordered ns h i l = lawful_below i (node ns i) (h i l)

-- what stands before a place stands before each later one
pub below_wider : (i j : ℕ) (n : Node) → i ≤ j → Below i n → Below j n
below_wider i j (Name n) l b = tt
below_wider i j (Env n) l b = tt
below_wider i j (Var n) l b = tt
below_wider i j (Pair x y) l b = (omega (arith, b.0), omega (arith, b.1))
below_wider i j (Seal x y) l b = (omega (arith, b.0), omega (arith, b.1))

-- no nodes: all are lawful
pub none_lawful : (ns : List Node) → ns ≡ [] → AllLawful ns
none_lawful ns e = subst AllLawful (sym e) (λ i l. absurd (omega arith))

-- the first places of no nodes are none
pub none_firsts : (ns : List Node) (fs : List NodeNo) → ns ≡ [] → fs ≡ [] → fs ≡ firsts ns
none_firsts ns fs e f = f ∙ sym (ap firsts e ∙ firsts_none)

-- with one lawful node more all are lawful
pub push_lawful : (ns ms : List Node) (n : Node) → AllLawful ns → Lawful (length ns) n → ms ≡ ns ++ (n ∷ []) → AllLawful ms
push_lawful ns ms n h l e =
    subst AllLawful (sym e)
    (λ i k.
    ⊎_elim
    (λ s. rw (get_or_append_left ns (n ∷ []) no_node i s) (h i s))
    (λ s. let j : length ns ≡ i = omega (arith, length_push ns n) in rw (get_or_push ns n no_node i j, ← j) l)
    (cases_lt i (length ns)))

-- the first places with one node more
pub push_firsts : (ns ms : List Node) (n : Node) (fs gs : List NodeNo) (f : NodeNo) → fs ≡ firsts ns → f.0 ≡ first ns (says (term ns) n) → ms ≡ ns ++ (n ∷ []) → gs ≡ fs ++ (f ∷ []) → gs ≡ firsts ms
push_firsts ns ms n fs gs f e d m g =
    g ∙ ap₂ (λ (l : List NodeNo) (x : NodeNo). l ++ (x ∷ [])) e (ap {A = ℕ} {B = NodeNo} (λ x. record { 0 = x }) d) ∙ sym (firsts_push ns n) ∙ sym (ap firsts m)

-- the first place that code reads
pub first_of : (ns : List Node) (fs : List NodeNo) (i : ℕ) (f : NodeNo) → fs ≡ firsts ns → i < length ns → f ≡ slice_index_or fs i f → f.0 ≡ first ns (term ns i)
first_of ns fs i f e l p = ap (λ (n : NodeNo). n.0) (p ∙ ap (λ (l : List NodeNo). get_or l i f) e) ∙ firsts_at ns i f l

-- two places that are held hold one term where their first places are one
pub places_told : (ns : List Node) (i j : ℕ) (r : Bool) → i < length ns → j < length ns → r ≡ (first ns (term ns i) == first ns (term ns j)) → Decides r (term ns i ≡ term ns j)
places_told ns i j r l m e =
    let s = first_places ns i j l m in
    let d = Decides-at _ _ e (Decides-eqb _ _) in
    (λ t. s.2 (d.0 t), λ t. d.1 (s.3 t))

-- the same, with that they are held
pub same_told : (ns : List Node) (i j : ℕ) (r : Bool) → i < length ns → j < length ns → r ≡ (first ns (term ns i) == first ns (term ns j)) → Decides r ((i < length ns) × (j < length ns) × (term ns i ≡ term ns j))
same_told ns i j r l m e = let d = places_told ns i j r l m e in (λ t. (l, m, d.0 t), λ t. d.1 t.2)

-- a place that holds the term of a node, and none before it does, is the term's first
pub first_found : (ns : List Node) (n : Node) (i : ℕ) → Ordered ns → i < length ns → says (term ns) (node ns i) ≡ says (term ns) n → ((k : ℕ) → k < i → term ns k ≢ says (term ns) n) → i ≡ first ns (says (term ns) n)
first_found ns n i o l e h = sym (find_is (says (term ns) n) (terms ns) i (omega (arith, length_terms ns)) (unfolds ns o i l ∙ e) h)

-- where no place holds the term of a node, its first place is the next one
pub first_new : (ns : List Node) (n : Node) (i : ℕ) → i ≡ length ns → ((k : ℕ) → k < i → term ns k ≢ says (term ns) n) → i ≡ first ns (says (term ns) n)
first_new ns n i e h = e ∙ sym (find_none (says (term ns) n) (terms ns) (λ k l. h k (omega (arith, length_terms ns))) ∙ length_terms ns)
