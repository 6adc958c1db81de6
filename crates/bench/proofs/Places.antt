-- Values are placed: one, and all that can be told.
use Rattle.std.proofs.Common.{◌≡◌, ℕ, ◌+◌, ◌<◌, ◌≤◌, List, [], ◌∷◌, ◌++◌, length, get_or, slice_index_or, Some, None, Option, Ok, Err, Result, refl, sym, ap, ap₂, subst, ◌∙◌, arith, append_assoc, append-nil, true}
use Rattle.std.specs.Prelude.{slice_set}
use Rattle.std.specs.Option.{is_some}
use Rattle.std.proofs.lemmas.Bool.{false≢true}
use Rattle.std.proofs.lemmas.List.{length_push, length-set, get_or-set_same, get_or-set_other, set-get_or}
use Rattle.std.proofs.lemmas.List.Sums.{sum_by-set, sum_by-le}
use mathlib.Core.Option.{Option as Maybe, some}
use mathlib.Core.Path.{fun_ext}
use native.Mathlib.Decide.{ℕ_discrete}
use Rattle.terms.specs.Terms.{Term, pair, seal}
use Rattle.terms.specs.Nodes.{node, says, term, Ordered, Below}
use Rattle.terms.specs.declared.node.Node.{Node}
use Rattle.terms.specs.declared.node.Node.TheVariants.{Name, Env, Var, Pair, Seal}
use Rattle.terms.specs.declared.number.NodeNo.{NodeNo}
use Rattle.terms.proofs.Unfolding.{unfolds, term_before, term_last}
use Rattle.notebook.specs.Calls.{Lawful, Put}
use Rattle.notebook.specs.Limits.{most_nodes}
use Rattle.notebook.specs.declared.faults.PutFault.{PutFault}
use Rattle.notebook.specs.declared.faults.PutFault.TheVariants.{Unlawful, Full}
use Rattle.protocol.specs.Lawful.{Content, Sound, NodeLaw}
use Rattle.sheet.specs.Sheets.{content_of}
use Rattle.sheet.specs.declared.sheet.Sheet.{Sheet}
use Rattle.runs.specs.Runs.{Values}
use Rattle.runs.specs.Valued.{valued, both}
use Rattle.judging.specs.Places.{term_at, values_in}
use Rattle.judging.proofs.Reading.{law_of}
use Rattle.bench.specs.Places.{KeptIn, one, count, Extends, PlainNode, said_by, PlacesValue, Swept}

-- a lawful node is put where there is room, and its term is the value placed
pub put_ok : (ns ms : List Node) (n : Node) (r : Result NodeNo PutFault) → Lawful (length ns) n → length ns < most_nodes → ((noted : List ℕ) → Put ns noted n r ms noted) → (p : NodeNo) × (r ≡ Ok p) × PlacesValue ns (some (says (term ns) n)) (Some p) ms
put_ok ns ms n (Ok p) l h q =
    let a = q [] in
    let e : length ms ≡ length ns + 1 = ap length a.3 ∙ length_push ns n in
    let t : term ms p.0 ≡ says (term ns) n = ap₂ term a.3 a.2 ∙ term_last ns n in
    (p, refl, ((n ∷ [], a.3), omega (arith, e), omega (arith, e, a.2), ap some (sym t)))
put_ok ns ms n (Err Unlawful) l h q = absurd ((q []).0 l)
put_ok ns ms n (Err Full) l h q = absurd (omega (arith, h, (q []).1))

pub ok_is : {p q : NodeNo} → ◌≡◌ {A = Result NodeNo PutFault} (Ok p) (Ok q) → p ≡ q
ok_is e = grind arith

-- the value of a node, from those of its parts
pub valued_unfolds : (v : Values) (ss : List Node) (i : ℕ) → Ordered ss → i < length ss → valued v (term ss i) ≡ said_by v (λ j. valued v (term ss j)) (node ss i)
valued_unfolds v ss i o l = ap (valued v) (unfolds ss o i l) ∙ by_node (node ss i)
  where
    by_node : (n : Node) → valued v (says (term ss) n) ≡ said_by v (λ j. valued v (term ss j)) n
    by_node (Name n) = refl
    by_node (Env e) = refl
    by_node (Var x) = refl
    by_node (Pair a b) = refl
    by_node (Seal b k) = refl

-- nothing added, and one addition after another
pub extends_same : (ns : List Node) → Extends ns ns
extends_same ns = ([], sym (append-nil ns))

pub extends_on : (ns ms ks : List Node) → Extends ns ms → Extends ms ks → Extends ns ks
extends_on ns ms ks e f = (e.0 ++ f.0, f.1 ∙ ap (λ (l : List Node). l ++ f.0) e.1 ∙ append_assoc ns e.0 f.0)

pub extends_none : (ns ms : List Node) → ns ≡ [] → Extends ns ms
extends_none ns ms e = (ms, ap (λ (l : List Node). l ++ ms) (sym e))

-- what is held stays, with its term
pub extends_term : (ns ms : List Node) → Extends ns ms → (i : ℕ) → i < length ns → (i < length ms) × (term ms i ≡ term ns i)
extends_term ns ms (more, e) i l = go ns ms more e l
  where
    go : (ns ms more : List Node) → ms ≡ ns ++ more → i < length ns → (i < length ms) × (term ms i ≡ term ns i)
    go ns ms [] e l = let f = e ∙ append-nil ns in (omega (arith, l, ap length f), ap (λ (z : List Node). term z i) f)
    go ns ms (n ∷ more) e l =
        let h : i < length (ns ++ (n ∷ [])) = omega (arith, l, length_push ns n) in
        let r = go (ns ++ (n ∷ [])) ms more (e ∙ sym (append_assoc ns (n ∷ []) more)) h in
        (r.0, r.1 ∙ term_before ns n i l)

pub extends_told : (ns ms : List Node) → Extends ns ms → (o : Option NodeNo) → ((p : NodeNo) → o ≡ Some p → p.0 < length ns) → term_at ms o ≡ term_at ns o
extends_told ns ms e None h = refl
extends_told ns ms e (Some p) h = ap some (extends_term ns ms e p.0 (h p refl)).1

pub extends_kept : (ns ms : List Node) (vs : List (Option NodeNo)) → Extends ns ms → KeptIn ns vs → KeptIn ms vs
extends_kept ns ms vs e h x p q = (extends_term ns ms e p.0 (h x p q)).0

-- values stay as they are
pub extends_values : (ns ms : List Node) (vs : List (Option NodeNo)) → Extends ns ms → KeptIn ns vs → values_in ms vs ≡ values_in ns vs
extends_values ns ms vs e h = fun_ext (λ x. extends_told ns ms e (slice_index_or vs x None) (h x))

some_is : {p q : NodeNo} → Some p ≡ Some q → p ≡ q
some_is e = grind arith

-- a row with a gap has fewer places than it is long
one_small : (o : Option NodeNo) → one o ≤ 1
one_small None = omega arith
one_small (Some p) = omega arith

pub count_small : (ps : List (Option NodeNo)) → count ps ≤ length ps
count_small ps = let h = sum_by-le one 1 ps (λ i d l. one_small (get_or ps i d)) in omega (arith, h)

pub count_more : (ps : List (Option NodeNo)) (i : ℕ) (p : NodeNo) → i < length ps → slice_index_or ps i None ≡ None → count (slice_set ps i (Some p)) ≡ count ps + 1
count_more ps i p l e = let h = sum_by-set one ps i (Some p) None l in omega (arith, h, ap one e)

pub count_gap : (ps : List (Option NodeNo)) (i : ℕ) → i < length ps → slice_index_or ps i None ≡ None → count ps < length ps
count_gap ps i l e =
    let p : NodeNo = record { 0 = 0 } in
    let h = count_small (slice_set ps i (Some p)) in
    omega (arith, h, count_more ps i p l e, length-set ps i (Some p))

-- the values are placed node by node
pub swept_none : (ns ss : List Node) (vs qs : List (Option NodeNo)) → KeptIn ns qs → ((i : ℕ) (p : NodeNo) → i < length ss → slice_index_or qs i None ≡ Some p → valued (values_in ns vs) (term ss i) ≡ some (term ns p.0)) → Swept ns ss vs qs 0 ns qs
swept_none ns ss vs qs k r = record { grown = extends_same ns; kept = k; right = r; done = λ i l. absurd (omega (arith, l)); few = omega arith; size = refl }

before_or_at : (P : ℕ → Type 0) (n : ℕ) → ((i : ℕ) → i < n → P i) → P n → (i : ℕ) → i < n + 1 → P i
before_or_at P n h p i l = elim (ℕ_discrete i n) [ yes e ↦ subst P (sym e) p | no d ↦ h i (omega (arith, d, l)) ]

a_place : (o : Option NodeNo) → is_some o ≡ true → (p : NodeNo) × (o ≡ Some p)
a_place None h = absurd (false≢true h)
a_place (Some p) h = (p, refl)

pub swept_skip : (ns ss : List Node) (vs qs : List (Option NodeNo)) (n : ℕ) (ms : List Node) (ps : List (Option NodeNo)) → n < length ss → is_some (slice_index_or ps n None) ≡ true → Swept ns ss vs qs n ms ps → Swept ns ss vs qs (n + 1) ms ps
swept_skip ns ss vs qs n ms ps l h s =
    let (p, e) = a_place (slice_index_or ps n None) h in
    record {
      grown = s.grown;
      kept = s.kept;
      right = s.right;
      done = before_or_at (λ i. term_at ms (slice_index_or ps i None) ≡ valued (values_in ns vs) (term ss i)) n s.done (ap (term_at ms) e ∙ sym (s.right n p l e));
      few = s.few;
      size = s.size;
    }

said_same : (v : Values) (f g : ℕ → Maybe Term) (i : ℕ) (n : Node) → Below i n → ((j : ℕ) → j < i → f j ≡ g j) → said_by v f n ≡ said_by v g n
said_same v f g i (Name n) b h = refl
said_same v f g i (Env e) b h = refl
said_same v f g i (Var x) b h = refl
said_same v f g i (Pair a c) b h = ap₂ (both pair) (h a.0 b.0) (h c.0 b.1)
said_same v f g i (Seal a c) b h = ap₂ (both seal) (h a.0 b.0) (h c.0 b.1)

-- what is placed for node n is its value
swept_value : (ns ss : List Node) (vs qs : List (Option NodeNo)) (n : ℕ) (ms : List Node) (ps : List (Option NodeNo)) → Ordered ss → KeptIn ns vs → n < length ss → Swept ns ss vs qs n ms ps → said_by (values_in ms vs) (λ i. term_at ms (slice_index_or ps i None)) (node ss n) ≡ valued (values_in ns vs) (term ss n)
swept_value ns ss vs qs n ms ps o k l s =
    ap (λ (v : Values). said_by v (λ i. term_at ms (slice_index_or ps i None)) (node ss n)) (extends_values ns ms vs s.grown k)
    ∙ said_same (values_in ns vs) (λ i. term_at ms (slice_index_or ps i None)) (λ i. valued (values_in ns vs) (term ss i)) n (node ss n) (o n l) s.done
    ∙ sym (valued_unfolds (values_in ns vs) ss n o l)

set_at : (P : ℕ → Option NodeNo → Type 0) (ps : List (Option NodeNo)) (n : ℕ) (r : Option NodeNo) → n < length ps → P n r → ((i : ℕ) → P i (slice_index_or ps i None)) → (i : ℕ) → P i (slice_index_or (slice_set ps n r) i None)
set_at P ps n r l h k i =
    elim (ℕ_discrete i n) [
      | yes e ↦ subst (λ (j : ℕ). P j (slice_index_or (slice_set ps n r) j None)) (sym e) (subst (P n) (sym (get_or-set_same ps n r None l)) h)
      | no d ↦ subst (P i) (sym (get_or-set_other ps n i r None d)) (k i)
    ]

pub swept_place : (ns ss : List Node) (vs qs : List (Option NodeNo)) (n : ℕ) (ms ks : List Node) (ps : List (Option NodeNo)) (x : Node) (r : Option NodeNo) → Ordered ss → KeptIn ns vs → n < length ss → n < length ps → slice_index_or ps n None ≡ None → x ≡ node ss n → Swept ns ss vs qs n ms ps → PlacesValue ms (said_by (values_in ms vs) (λ i. term_at ms (slice_index_or ps i None)) x) r ks → Swept ns ss vs qs (n + 1) ks (slice_set ps n r)
swept_place ns ss vs qs n ms ks ps x None o k l m e f s h =
    let v = ap (said_by (values_in ms vs) (λ i. term_at ms (slice_index_or ps i None))) f ∙ swept_value ns ss vs qs n ms ps o k l s in
    let p : slice_set ps n None ≡ ps = ap (λ (x : Option NodeNo). slice_set ps n x) (sym e) ∙ set-get_or ps n None in
    rw (h.0, p)
    record {
      grown = s.grown;
      kept = s.kept;
      right = s.right;
      done = before_or_at (λ i. term_at ms (slice_index_or ps i None) ≡ valued (values_in ns vs) (term ss i)) n s.done (ap (term_at ms) e ∙ sym h.1 ∙ v);
      few = s.few;
      size = s.size;
    }
swept_place ns ss vs qs n ms ks ps x (Some p) o k l m e f s h =
    let v = ap (said_by (values_in ms vs) (λ i. term_at ms (slice_index_or ps i None))) f ∙ swept_value ns ss vs qs n ms ps o k l s in
    let here : valued (values_in ns vs) (term ss n) ≡ some (term ks p.0) = sym v ∙ h.3 in
    record {
      grown = extends_on ns ms ks s.grown h.0;
      kept = set_at (λ i y. (q : NodeNo) → y ≡ Some q → q.0 < length ks) ps n (Some p) m (λ q d. subst (λ (z : NodeNo). z.0 < length ks) (some_is d) h.2) (extends_kept ms ks ps h.0 s.kept);
      right = λ i q b d. set_at (λ j y. (z : NodeNo) → j < length ss → y ≡ Some z → valued (values_in ns vs) (term ss j) ≡ some (term ks z.0)) ps n (Some p) m
          (λ z b d. here ∙ ap (λ (y : NodeNo). some (term ks y.0)) (some_is d))
          (λ j z b d. s.right j z b d ∙ ap some (sym (extends_term ms ks h.0 z.0 (s.kept j z d)).1))
          i q b d;
      done = before_or_at (λ i. term_at ks (slice_index_or (slice_set ps n (Some p)) i None) ≡ valued (values_in ns vs) (term ss i)) n
          (λ i b. ap (term_at ks) (get_or-set_other ps n i (Some p) None (λ d. absurd (omega (arith, d, b)))) ∙ extends_told ms ks h.0 (slice_index_or ps i None) (s.kept i) ∙ s.done i b)
          (ap (term_at ks) (get_or-set_same ps n (Some p) None m) ∙ sym here);
      few = omega (arith, s.few, h.1, count_more ps n p m e);
      size = length-set ps n (Some p) ∙ s.size;
    }

-- there is room for one node more while a node has no place
pub swept_room : (ns ss : List Node) (vs qs : List (Option NodeNo)) (n : ℕ) (ms : List Node) (ps : List (Option NodeNo)) → length ns ≤ 512 + count qs → length ps ≡ 256 → n < length ps → slice_index_or ps n None ≡ None → Swept ns ss vs qs n ms ps → length ms < most_nodes
swept_room ns ss vs qs n ms ps r z l e s = omega (arith, r, z, s.few, count_gap ps n l e)

pub swept_is : (ns ss : List Node) (vs qs : List (Option NodeNo)) (n : ℕ) (ms ks : List Node) (ps rs : List (Option NodeNo)) → ks ≡ ms → rs ≡ ps → Swept ns ss vs qs n ms ps → Swept ns ss vs qs n ks rs
swept_is ns ss vs qs n ms ks ps rs e d s = rw (e, d) s

-- nothing is held yet
pub none_kept : (ns : List Node) (vs : List (Option NodeNo)) → ((x : ℕ) → slice_index_or vs x None ≡ None) → KeptIn ns vs
none_kept ns vs h x p e = absurd (grind (arith, e, h x))

-- what a lawful sheet's nodes are
plain_node : (C : Content) → Sound C → (i : ℕ) (n : Node) → NodeLaw C i n → i < length C.nodes → PlainNode n × Below i n
plain_node C s i (Name n) h l = (omega (arith, h, s.few_names), tt)
plain_node C s i (Env e) h l = absurd h
plain_node C s i (Var x) h l = (omega (arith, h, s.few_variables), tt)
plain_node C s i (Pair a b) h l = ((omega (arith, h.0, l, s.few_nodes), omega (arith, h.1, l, s.few_nodes)), h)
plain_node C s i (Seal b k) h l = ((omega (arith, h.0, l, s.few_nodes), omega (arith, h.1, l, s.few_nodes)), (h.0, h.1))

pub sound_of : (s : Sheet) → Sound (content_of s)
sound_of s = (law_of s).sound

pub sheet_plain : (s : Sheet) (i : ℕ) → i < length (content_of s).nodes → PlainNode (node (content_of s).nodes i)
sheet_plain s i l = let h = sound_of s in (plain_node (content_of s) h i (node (content_of s).nodes i) (h.nodes_stand i l) l).0

pub sheet_ordered : (s : Sheet) → Ordered (content_of s).nodes
sheet_ordered s i l = let h = sound_of s in (plain_node (content_of s) h i (node (content_of s).nodes i) (h.nodes_stand i l) l).1
