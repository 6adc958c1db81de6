-- The terms of a table: one node more, and what a node says of the terms before it.
use Rattle.std.proofs.Common.{◌≡◌, ℕ, zero, suc, ◌+◌, ◌<◌, true, ltb, List, [], ◌∷◌, ◌++◌, length, sym, refl, ap, ◌∙◌, ap₂, not-suc-le-zero, arith, length-append}
use Rattle.std.proofs.lemmas.List.{get_or_append_left, get_or_push}
use Rattle.std.proofs.lemmas.Bool.{ltb-true, lt-ltb, and_parts, and_from}
use Rattle.terms.specs.Terms.{Term, name, pair, seal}
use Rattle.terms.specs.declared.node.Node.{Node}
use Rattle.terms.specs.declared.node.Node.TheVariants.{Name, Env, Var, Pair, Seal}
use Rattle.terms.specs.Nodes.{node, says, at, build, terms, term, Below, Ordered, below?, ordered?, Unfolds, Grows}

-- the last node is made last
build_push : (ts : List Term) (ns : List Node) (n : Node) → build ts (ns ++ (n ∷ [])) ≡ build ts ns ++ (says (at (build ts ns)) n ∷ [])
build_push ts [] n = refl
build_push ts (m ∷ ns) n = build_push (ts ++ (says (at ts) m ∷ [])) ns n

pub grows : Grows
unfolding terms
grows ns n = build_push [] ns n

build_length : (ts : List Term) (ns : List Node) → length (build ts ns) ≡ length ts + length ns
build_length ts [] = omega arith
build_length ts (n ∷ ns) = build_length (ts ++ (says (at ts) n ∷ [])) ns ∙ simp length-append (omega arith)

pub length_terms : (ns : List Node) → length (terms ns) ≡ length ns
unfolding terms
length_terms ns = omega (arith, build_length [] ns)

-- two tables that agree below i give a node that refers below i one term
pub says_same : (f g : ℕ → Term) (i : ℕ) (n : Node) → Below i n → ((m : ℕ) → m < i → f m ≡ g m) → says f n ≡ says g n
says_same f g i (Name n) b e = refl
says_same f g i (Env n) b e = refl
says_same f g i (Var n) b e = refl
says_same f g i (Pair x y) b e = ap₂ pair (e x.0 b.0) (e y.0 b.1)
says_same f g i (Seal x y) b e = ap₂ seal (e x.0 b.0) (e y.0 b.1)

-- what was made stays
build_keeps : (ts : List Term) (ns : List Node) (i : ℕ) → i < length ts → at (build ts ns) i ≡ at ts i
build_keeps ts [] i h = refl
build_keeps ts (n ∷ ns) i h =
    build_keeps (ts ++ (says (at ts) n ∷ [])) ns i (simp length-append (omega arith)) ∙ get_or_append_left ts (says (at ts) n ∷ []) (name 0) i h

law_from : (ts : List Term) (ns : List Node) (i p : ℕ) → i < length ns → p ≡ length ts + i → Below p (node ns i) → at (build ts ns) p ≡ says (at (build ts ns)) (node ns i)
law_from ts [] i p h e o = absurd (not-suc-le-zero h)
law_from ts (n ∷ ns) zero p h e o =
    let x : Term = says (at ts) n in
    let here : length ts ≡ p = omega arith in
    let room : p < length (ts ++ (x ∷ [])) = simp length-append (omega arith) in
    build_keeps (ts ++ (x ∷ [])) ns p room
    ∙ (get_or_push ts x (name 0) p here
    ∙ says_same (at ts) (at (build ts (n ∷ ns))) p n o (λ m hm. sym (build_keeps ts (n ∷ ns) m (omega arith))))
law_from ts (n ∷ ns) (suc i) p h e o =
    law_from (ts ++ (says (at ts) n ∷ [])) ns i p (omega arith) (simp length-append (omega arith)) o

pub unfolds : Unfolds
unfolding terms
unfolds ns o i h = law_from [] ns i i h (omega arith) (o i h)

-- a term before the last node
pub term_before : (ns : List Node) (n : Node) (i : ℕ) → i < length ns → term (ns ++ (n ∷ [])) i ≡ term ns i
term_before ns n i h = ap (λ (ts : List Term). at ts i) (grows ns n) ∙ get_or_append_left (terms ns) (says (term ns) n ∷ []) (name 0) i (omega (arith, length_terms ns))

pub term_last : (ns : List Node) (n : Node) → term (ns ++ (n ∷ [])) (length ns) ≡ says (term ns) n
term_last ns n = ap (λ (ts : List Term). at ts (length ns)) (grows ns n) ∙ get_or_push (terms ns) (says (term ns) n) (name 0) (length ns) (length_terms ns)

-- the tests say what the facts say
pub below_true : (i : ℕ) (n : Node) → below? i n ≡ true → Below i n
below_true i (Name n) t = tt
below_true i (Env n) t = tt
below_true i (Var n) t = tt
below_true i (Pair a b) t = let p = and_parts (ltb a.0 i) (ltb b.0 i) t in (ltb-true _ _ p.0, ltb-true _ _ p.1)
below_true i (Seal a b) t = let p = and_parts (ltb a.0 i) (ltb b.0 i) t in (ltb-true _ _ p.0, ltb-true _ _ p.1)

pub true_below : (i : ℕ) (n : Node) → Below i n → below? i n ≡ true
true_below i (Name n) b = refl
true_below i (Env n) b = refl
true_below i (Var n) b = refl
true_below i (Pair x y) b = and_from _ _ (lt-ltb _ _ b.0) (lt-ltb _ _ b.1)
true_below i (Seal x y) b = and_from _ _ (lt-ltb _ _ b.0) (lt-ltb _ _ b.1)

ordered_at : (k : ℕ) (ns : List Node) → ordered? k ns ≡ true → (i p : ℕ) → i < length ns → p ≡ k + i → Below p (node ns i)
ordered_at k [] t i p h e = absurd (not-suc-le-zero h)
ordered_at k (n ∷ ns) t zero p h e = let q : p ≡ k = omega arith in rw q (below_true k n (and_parts (below? k n) (ordered? (suc k) ns) t).0)
ordered_at k (n ∷ ns) t (suc i) p h e = ordered_at (suc k) ns (and_parts (below? k n) (ordered? (suc k) ns) t).1 i p (omega arith) (omega arith)

pub ordered_true : (ns : List Node) → ordered? 0 ns ≡ true → Ordered ns
ordered_true ns t i h = ordered_at 0 ns t i i h (omega arith)

ordered_more : (k : ℕ) (ns : List Node) (n : Node) (p : ℕ) → p ≡ k + length ns → ordered? k ns ≡ true → Below p n → ordered? k (ns ++ (n ∷ [])) ≡ true
ordered_more k [] n p e t b = let q : p ≡ k = omega arith in and_from (below? k n) true (true_below k n (rw q at b)) refl
ordered_more k (m ∷ ns) n p e t b =
    let q = and_parts (below? k m) (ordered? (suc k) ns) t in
    and_from (below? k m) (ordered? (suc k) (ns ++ (n ∷ []))) q.0 (ordered_more (suc k) ns n p (omega arith) q.1 b)

pub ordered_push : (ns : List Node) (n : Node) → ordered? 0 ns ≡ true → Below (length ns) n → ordered? 0 (ns ++ (n ∷ [])) ≡ true
ordered_push ns n t b = ordered_more 0 ns n (length ns) (omega arith) t b
