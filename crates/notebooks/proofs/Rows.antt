-- The lists of a notebook: what stays held with one node or one note more, the parts of a node, when two places hold one term,
-- and what a call leaves.
use Rattle.std.proofs.Common.{◌≡◌, ℕ, ◌<◌, ◌≤◌, Bool, false, List, [], ◌∷◌, ◌++◌, length, get_or, take, Ok, Err, Result, Decides, slice_index, slice_index_or, refl, sym, ap, subst, ◌∙◌, ⊎_elim, arith}
use Rattle.std.specs.Prelude.{replicate}
use Rattle.std.proofs.lemmas.Bool.Decides.{same_from_decides}
use Rattle.std.proofs.lemmas.Bool.{cases_lt}
use Rattle.std.proofs.lemmas.List.{length_push, length-map, map_push, get_or_append_left, get_or_push, get_or-map, get_or_read, length-take-le, length-replicate}
use Rattle.std.proofs.lemmas.Grind.{common_steps}
use Rattle.terms.specs.Terms.{IsName}
use Rattle.terms.specs.Nodes.{node, no_node, term, terms, Below}
use Rattle.terms.specs.declared.node.Node.{Node}
use Rattle.terms.specs.declared.node.Node.TheVariants.{Pair, Seal}
use Rattle.terms.specs.declared.number.NodeNo.{NodeNo}
use Rattle.terms.proofs.Unfolding.{length_terms}
use Rattle.derivation.specs.Noted.{Held}
use Rattle.analysis.specs.Places.{first, firsts}
use Rattle.analysis.proofs.Finding.{first_at, first_places}
use Rattle.analysis.specs.Parts.{Parts, name?}
use Rattle.analysis.specs.Marks.{Learned}
use Rattle.analysis.proofs.Composing.{name_true, true_name}
use Rattle.analysis.proofs.Marking.{noted_parts}
use Rattle.analysis.proofs.Growing.{grown_parts}
use Rattle.notebook.specs.declared.faults.PutFault.{PutFault}
use Rattle.notebook.specs.declared.faults.PutFault.TheVariants as put
use Rattle.notebook.specs.declared.faults.NoteFault.{NoteFault}
use Rattle.notebook.specs.declared.faults.NoteFault.TheVariants as note
use Rattle.notebook.specs.Calls.{Put, Noted}
use Rattle.pages.specs.Columns.{AllLawful}
use Rattle.pages.proofs.Rows.{lawful_ordered, first_of}
use Rattle.notebooks.specs.Numbers.{numbers}

-- the numbers of the places with one note more
pub push_numbers : (ps qs : List NodeNo) (p : NodeNo) → qs ≡ ps ++ (p ∷ []) → numbers qs ≡ numbers ps ++ (p.0 ∷ [])
push_numbers ps qs p e = ap numbers e ∙ map_push (λ x. x.0) ps p

-- the number of the place that code reads
pub number_at : (ps : List NodeNo) (k : ℕ) (d : NodeNo) → k < length ps → slice_index (numbers ps) k ≡ (get_or ps k d).0
number_at ps k d l = get_or-map (λ x. x.0) ps k d 0 l

-- no notes: all are held
pub none_held : (ns : List Node) (ps : List NodeNo) → ps ≡ [] → Held ns (numbers ps)
none_held ns ps e = subst (λ (qs : List NodeNo). Held ns (numbers qs)) (sym e) (λ k l. absurd (omega arith))

-- what is held stays held with one node more
pub push_held : (ns ms : List Node) (n : Node) (ys : List ℕ) → Held ns ys → ms ≡ ns ++ (n ∷ []) → Held ms ys
push_held ns ms n ys h e k l = omega (arith, h k l, ap length e, length_push ns n)

-- with one held place more all notes are held
pub note_held : (ns : List Node) (ps qs : List NodeNo) (p : NodeNo) → Held ns (numbers ps) → p.0 < length ns → qs ≡ ps ++ (p ∷ []) → Held ns (numbers qs)
note_held ns ps qs p h l e =
    subst (Held ns) (sym (push_numbers ps qs p e))
    (λ k m.
    ⊎_elim
    (λ s. rw (get_or_append_left (numbers ps) (p.0 ∷ []) 0 k s) (h k s))
    (λ s. let j : length (numbers ps) ≡ k = omega (arith, length_push (numbers ps) p.0) in rw (get_or_push (numbers ps) p.0 0 k j) l)
    (cases_lt k (length (numbers ps))))

-- a test of first places tells whether two places hold one term
pub firsts_decide : (ns : List Node) (i j f g : ℕ) (r : Bool) → i < length ns → j < length ns → f ≡ first ns (term ns i) → g ≡ first ns (term ns j) → Decides r (f ≡ g) → Decides r (term ns i ≡ term ns j)
firsts_decide ns i j f g r l m x y d =
    let s = first_places ns i j l m in
    (λ t. s.2 (sym x ∙ d.0 t ∙ y), λ t. d.1 (x ∙ s.3 t ∙ sym y))

-- a test of the first places that code reads tells the same
pub same_decided : (ns : List Node) (fs : List NodeNo) (i j : ℕ) (f g : NodeNo) (r : Bool) → fs ≡ firsts ns → i < length ns → j < length ns → f ≡ slice_index_or fs i f → g ≡ slice_index_or fs j g → Decides r (f.0 ≡ g.0) → Decides r (term ns i ≡ term ns j)
same_decided ns fs i j f g r e l m p q d = firsts_decide ns i j f.0 g.0 r l m (first_of ns fs i f e l p) (first_of ns fs j g e m q) d

-- there are as many first places as nodes
pub size_firsts : (ns : List Node) (fs : List NodeNo) → fs ≡ firsts ns → length fs ≡ length ns
size_firsts ns fs e = ap length e ∙ length-map (terms ns) (λ t. record { 0 = first ns t }) ∙ length_terms ns

-- the node that code reads at a place
pub node_is : (ns : List Node) (i : ℕ) (x n : Node) → i < length ns → x ≡ slice_index_or ns i x → x ≡ n → node ns i ≡ n
node_is ns i x n l e d = sym (get_or_read ns i x l e no_node) ∙ d

-- the parts of a pair stand before it
pub pair_below : (ns : List Node) → AllLawful ns → (i : ℕ) (a b : NodeNo) → i < length ns → node ns i ≡ Pair a b → (a.0 < i) × (b.0 < i)
pair_below ns h i a b l e = subst (Below i) e (lawful_ordered ns h i l)

-- the parts of a seal stand before it
pub seal_below : (ns : List Node) → AllLawful ns → (i : ℕ) (a b : NodeNo) → i < length ns → node ns i ≡ Seal a b → (a.0 < i) × (b.0 < i)
seal_below ns h i a b l e = subst (Below i) e (lawful_ordered ns h i l)

-- the parts of a pair are held
pub pair_held : (ns : List Node) → AllLawful ns → (i : ℕ) (a b : NodeNo) → i < length ns → node ns i ≡ Pair a b → (a.0 < length ns) × (b.0 < length ns)
pair_held ns h i a b l e = let p = pair_below ns h i a b l e in (omega (arith, p.0), omega (arith, p.1))

-- the parts of a seal are held
pub seal_held : (ns : List Node) → AllLawful ns → (i : ℕ) (a b : NodeNo) → i < length ns → node ns i ≡ Seal a b → (a.0 < length ns) × (b.0 < length ns)
seal_held ns h i a b l e = let p = seal_below ns h i a b l e in (omega (arith, p.0), omega (arith, p.1))

-- a test of names where the place is held
pub name_told : (ns : List Node) (i : ℕ) (r : Bool) → i < length ns → Decides r ((i < length ns) × IsName (term ns i)) → r ≡ name? (term ns i)
name_told ns i r l d = same_from_decides r (name? (term ns i)) d (λ e. (l, name_true (term ns i) e), λ p. true_name (term ns i) p.1)

-- a part of a table without marks has none
pub blank_take : (m n i : ℕ) → slice_index_or (take n (replicate m false)) i false ≡ false
blank_take m n i = grind (arith, common_steps)

-- such a part is as long as it is asked to be
pub blank_length : (m n k : ℕ) → n ≤ m → n ≡ k → length (take n (replicate m false)) ≡ k
blank_length m n k l e = length-take-le n (replicate m false) (omega (arith, length-replicate m false)) ∙ e

-- a refused node leaves both lists
pub put_same : (ns ms : List Node) (ys zs : List ℕ) (n : Node) (e : PutFault) → Put ns ys n (Err e) ms zs → (ms ≡ ns) × (zs ≡ ys)
put_same ns ms ys zs n put.Unlawful p = (p.1, p.2)
put_same ns ms ys zs n put.Full p = (p.2, p.3)

-- a refused note leaves both lists
pub note_same : (ns ms : List Node) (ys zs : List ℕ) (n : NodeNo) (e : NoteFault) → Noted ns ys n (Err e) ms zs → (ms ≡ ns) × (zs ≡ ys)
note_same ns ms ys zs n note.NotHeld p = (p.1, p.2)
note_same ns ms ys zs n note.Full p = (p.2, p.3)

-- what is held stays held, whether a node is taken or refused
pub put_held : (ns ms : List Node) (ys : List ℕ) (n : Node) (r : Result NodeNo PutFault) → Put ns ys n r ms ys → Held ns ys → Held ms ys
put_held ns ms ys n (Ok p) q h = λ k l. omega (arith, h k l, ap length q.3, length_push ns n)
put_held ns ms ys n (Err e) q h = let s = put_same ns ms ys ys n e q in rw s.0 h

-- the same lists have the same parts
pub same_parts : (ns ms : List Node) (ys zs : List ℕ) (known : List Bool) → ms ≡ ns → zs ≡ ys → Parts ns ys known → Parts ms zs known
same_parts ns ms ys zs known e f p = rw (e, f) p

-- the parts after a node that is refused
pub put_refused : (ns ms : List Node) (ys zs : List ℕ) (n : Node) (e : PutFault) (known : List Bool) → Put ns ys n (Err e) ms zs → Parts ns ys known → Parts ms zs known
put_refused ns ms ys zs n e known p = let s = put_same ns ms ys zs n e p in same_parts ns ms ys zs known s.0 s.1

-- the parts after a note that is refused
pub note_refused : (ns ms : List Node) (ys zs : List ℕ) (n : NodeNo) (e : NoteFault) (known : List Bool) → Noted ns ys n (Err e) ms zs → Parts ns ys known → Parts ms zs known
note_refused ns ms ys zs n e known p = let s = note_same ns ms ys zs n e p in same_parts ns ms ys zs known s.0 s.1

-- the parts after a node that is taken
pub put_parts : (ns ms : List Node) (ys zs : List ℕ) (n : Node) (p : NodeNo) (known after : List Bool) → AllLawful ns → Held ns ys → Put ns ys n (Ok p) ms zs → after ≡ known ++ (false ∷ []) → Parts ns ys known → Parts ms zs after
put_parts ns ms ys zs n p known after h d q e r =
    subst (λ (k : List Bool). Parts ms zs k) (sym e) (same_parts (ns ++ (n ∷ [])) ms ys zs (known ++ (false ∷ [])) q.3 q.4 (grown_parts ns (lawful_ordered ns h) n ys known d r))

-- the parts after a note that is taken
pub note_parts : (ns ms : List Node) (ys zs : List ℕ) (p : NodeNo) (known a after end : List Bool) → Noted ns ys p (Ok tt) ms zs → a ≡ known → length after ≡ length a → end ≡ after → Learned ms a (first ms (term ms p.0)) after → Parts ns ys known → Parts ms zs end
note_parts ns ms ys zs p known a after end q e l f g r =
    let b : Parts ms ys a = subst (λ (k : List Bool). Parts ms ys k) (sym e) (same_parts ns ms ys ys known q.2 refl r) in
    let h : p.0 < length ms = omega (arith, q.0, ap length q.2) in
    let w = (first_at ms p.0 h).0 in
    let d = noted_parts ms ys p.0 a after (l ∙ b.size) (omega (arith, b.size)) b g in
    subst (λ (k : List Bool). Parts ms zs k) (sym f) (subst (λ (y : List ℕ). Parts ms y after) (sym q.3) d)
