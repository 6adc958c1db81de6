-- The sets of variables of a table's terms: one at a place, and one more.
use Rattle.std.proofs.Common.{◌≡◌, ℕ, ◌+◌, ◌<◌, true, List, [], ◌∷◌, ◌++◌, map, length, get_or, Option, Some, None, Bor, option_copied, sym, refl, ap, ◌∙◌, ap₂, ⊎_elim, arith}
use Rattle.std.proofs.lemmas.List.{length-map, get_or-map, map_push, length_push, get_or_push, get_or_append_left}
use Rattle.std.proofs.lemmas.Bool.{cases_lt, ltb-true, ltb-false}
use Rattle.std.specs.Slice.{IsItemAt}
use Rattle.terms.specs.declared.node.Node.{Node}
use Rattle.terms.specs.declared.node.Node.TheVariants.{Var}
use Rattle.terms.specs.declared.variables.VarSet.{VarSet}
use Rattle.terms.specs.Terms.{Term, name, Occurs}
use Rattle.terms.specs.Bits.{In, varset}
use Rattle.terms.specs.Nodes.{no_node, node, says, terms, term, Below, Narrow, ordered?}
use Rattle.terms.specs.Sets.{set_of, sets, Gathered}
use Rattle.terms.proofs.Bitsets.{in_varset, varset_in}
use Rattle.terms.proofs.Unfolding.{grows, length_terms, ordered_push}

pub length_sets : (ns : List Node) → length (sets ns) ≡ length ns
length_sets ns = length-map (terms ns) set_of ∙ length_terms ns

-- the set at a place is that of the term there
pub set_at : (vs : List VarSet) (ns : List Node) (i : ℕ) (s : VarSet) → vs ≡ sets ns → i < length ns → s ≡ get_or vs i s → s.0 ≡ varset (term ns i)
set_at vs ns i s e h r =
    ap (λ (v : VarSet). v.0) (r ∙ ap (λ (l : List VarSet). get_or l i s) e ∙ get_or-map set_of (terms ns) i (name 0) s (omega (arith, length_terms ns)))

pub set_members : (t : Term) (s : ℕ) → s ≡ varset t → (x : ℕ) → (In x s → Occurs x t) × (Occurs x t → In x s)
set_members t s e x = (λ h. in_varset x t (rw e at h), λ o. rw e (varset_in x t o))

-- a look at a place finds the variables of the term there
pub gathered_at : (vs : List VarSet) (ns : List Node) (i : ℕ) (r : Option (Bor VarSet)) → vs ≡ sets ns → IsItemAt vs i r → Gathered ns i (option_copied r)
gathered_at vs ns i None e h = let l = ap length e ∙ length_sets ns in omega (arith, ltb-false _ _ (sym h.0))
gathered_at vs ns i (Some x) e h =
    let l = ap length e ∙ length_sets ns in
    let k : i < length ns = omega (arith, ltb-true _ _ (sym h.0)) in
    (k, set_members _ _ (set_at vs ns i x.now e k h.1))

pub sets_none : sets [] ≡ []
unfolding terms
sets_none = refl

pub sets_push : (ns : List Node) (n : Node) → sets (ns ++ (n ∷ [])) ≡ sets ns ++ (set_of (says (term ns) n) ∷ [])
sets_push ns n = ap (map set_of) (grows ns n) ∙ map_push set_of (terms ns) (says (term ns) n)

-- a table after one node more
pub pushed_ordered : (ns ns' : List Node) (n : Node) → ordered? 0 ns ≡ true → Below (length ns) n → ns' ≡ ns ++ (n ∷ []) → ordered? 0 ns' ≡ true
pushed_ordered ns ns' n o b e = rw e (ordered_push ns n o b)

pub pushed_gathered : (ns ns' : List Node) (vs vs' ws : List VarSet) (n : Node) (s : VarSet) → vs ≡ sets ns → s ≡ set_of (says (term ns) n) → ns' ≡ ns ++ (n ∷ []) → ws ≡ vs → vs' ≡ ws ++ (s ∷ []) → vs' ≡ sets ns'
pushed_gathered ns ns' vs vs' ws n s g e p r q = q ∙ ap₂ (λ (l : List VarSet) (v : VarSet). l ++ (v ∷ [])) (r ∙ g) e ∙ sym (sets_push ns n) ∙ sym (ap sets p)

-- every variable of the longer table is below 64
pub pushed_narrow : (ns ns' : List Node) (n : Node) → ((i x : ℕ) → i < length ns → node ns i ≡ Var (record { 0 = x }) → x < 64) → Narrow n → ns' ≡ ns ++ (n ∷ []) → (i x : ℕ) → i < length ns' → node ns' i ≡ Var (record { 0 = x }) → x < 64
pushed_narrow ns ns' n all h e i x l q =
    let l' : i < length ns + 1 = omega (arith, rw e at l, length_push ns n) in
    let q' : node (ns ++ (n ∷ [])) i ≡ Var (record { 0 = x }) = ap (λ (ms : List Node). node ms i) (sym e) ∙ q in
    ⊎_elim
    (λ s. all i x s (sym (get_or_append_left ns (n ∷ []) no_node i s) ∙ q'))
    (λ s. let f : length ns ≡ i = omega arith in let g : n ≡ Var (record { 0 = x }) = sym (get_or_push ns n no_node i f) ∙ q' in rw g at h)
    (cases_lt i (length ns))

-- a table with the same lists
pub same_table : (ns ms : List Node) (vs us : List VarSet) → ordered? 0 ns ≡ true → vs ≡ sets ns → ((i x : ℕ) → i < length ns → node ns i ≡ Var (record { 0 = x }) → x < 64) → ms ≡ ns → us ≡ vs → (ordered? 0 ms ≡ true) × (us ≡ sets ms) × ((i x : ℕ) → i < length ms → node ms i ≡ Var (record { 0 = x }) → x < 64)
same_table ns ms vs us o g n p q = (rw p o, q ∙ g ∙ sym (ap sets p), λ i x h e. n i x (rw p at h) (ap (λ (l : List Node). node l i) (sym p) ∙ e))
