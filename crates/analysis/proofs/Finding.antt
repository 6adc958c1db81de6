-- Equality of terms as a test, and the first place of a term in a list that grows.
use Rattle.std.proofs.Common.{◌≡◌, ℕ, zero, suc, ◌<◌, ◌≤◌, Bool, true, false, cond, List, [], ◌∷◌, ◌++◌, map, length, get_or, sym, refl, ap, ◌∙◌, subst, ap₂, ⊎_elim, arith}
use Rattle.std.proofs.lemmas.List.{get_or-map, map_push}
use Rattle.std.proofs.lemmas.Bool.{eqb-true, eq-eqb, and_parts, and_from, cases_lt, cond-true, false≢true}
use Rattle.terms.specs.Terms.{Term, name, env, var, pair, seal}
use Rattle.terms.specs.Nodes.{at, terms, term, says}
use Rattle.terms.specs.declared.node.Node.{Node}
use Rattle.terms.specs.declared.number.NodeNo.{NodeNo}
use Rattle.terms.proofs.Unfolding.{grows, length_terms}
use Rattle.analysis.specs.Places.{same, find, first, firsts, FirstPlaces}

clash : {A : Type 0} → false ≡ true → A
clash e = absurd (false≢true e)

pub same_true : (s t : Term) → same s t ≡ true → s ≡ t
same_true (name m) (name n) e = ap name (eqb-true m n e)
same_true (name m) (env n) e = clash e
same_true (name m) (var n) e = clash e
same_true (name m) (pair c d) e = clash e
same_true (name m) (seal c d) e = clash e
same_true (env m) (name n) e = clash e
same_true (env m) (env n) e = ap env (eqb-true m n e)
same_true (env m) (var n) e = clash e
same_true (env m) (pair c d) e = clash e
same_true (env m) (seal c d) e = clash e
same_true (var m) (name n) e = clash e
same_true (var m) (env n) e = clash e
same_true (var m) (var n) e = ap var (eqb-true m n e)
same_true (var m) (pair c d) e = clash e
same_true (var m) (seal c d) e = clash e
same_true (pair a b) (name n) e = clash e
same_true (pair a b) (env n) e = clash e
same_true (pair a b) (var n) e = clash e
same_true (pair a b) (pair c d) e = let p = and_parts (same a c) (same b d) e in ap₂ pair (same_true a c p.0) (same_true b d p.1)
same_true (pair a b) (seal c d) e = clash e
same_true (seal a b) (name n) e = clash e
same_true (seal a b) (env n) e = clash e
same_true (seal a b) (var n) e = clash e
same_true (seal a b) (pair c d) e = clash e
same_true (seal a b) (seal c d) e = let p = and_parts (same a c) (same b d) e in ap₂ seal (same_true a c p.0) (same_true b d p.1)

same_itself : (t : Term) → same t t ≡ true
same_itself (name n) = eq-eqb n n refl
same_itself (env n) = eq-eqb n n refl
same_itself (var n) = eq-eqb n n refl
same_itself (pair a b) = and_from (same a a) (same b b) (same_itself a) (same_itself b)
same_itself (seal a b) = and_from (same a a) (same b b) (same_itself a) (same_itself b)

pub true_same : (s t : Term) → s ≡ t → same s t ≡ true
true_same s t e = subst (λ (r : Term). same s r ≡ true) e (same_itself s)

-- a term that stands at a place is found there or before
pub find_below : (t : Term) (ts : List Term) (i : ℕ) → i < length ts → at ts i ≡ t → (find t ts ≤ i) × (at ts (find t ts) ≡ t)
find_below t [] i h e = absurd (omega arith)
find_below t (s ∷ ts) zero h e = let c = cond-true (same s t) 0 (suc (find t ts)) (true_same s t e) in rw c (omega arith, e)
find_below t (s ∷ ts) (suc i) h e = go (same s t) refl (find_below t ts i (omega arith) e)
  where
    go : (b : Bool) → same s t ≡ b → (find t ts ≤ i) × (at ts (find t ts) ≡ t) → (cond b 0 (suc (find t ts)) ≤ suc i) × (at (s ∷ ts) (cond b 0 (suc (find t ts))) ≡ t)
    go true p r = (omega arith, same_true s t p)
    go false p r = (omega (arith, r.0), r.1)

-- what is found stands there
pub find_hit : (t : Term) (ts : List Term) → find t ts < length ts → at ts (find t ts) ≡ t
find_hit t [] h = absurd (omega arith)
find_hit t (s ∷ ts) h = go (same s t) refl (λ l. find_hit t ts l) h
  where
    go : (b : Bool) → same s t ≡ b → (find t ts < length ts → at ts (find t ts) ≡ t) → cond b 0 (suc (find t ts)) < suc (length ts) → at (s ∷ ts) (cond b 0 (suc (find t ts))) ≡ t
    go true p r l = same_true s t p
    go false p r l = r (omega arith)

find_within : (t : Term) (ts : List Term) → find t ts ≤ length ts
find_within t [] = omega arith
find_within t (s ∷ ts) = go (same s t) (find_within t ts)
  where
    go : (b : Bool) → find t ts ≤ length ts → cond b 0 (suc (find t ts)) ≤ suc (length ts)
    go true r = omega arith
    go false r = omega arith

pub find_is : (t : Term) (ts : List Term) (i : ℕ) → i < length ts → at ts i ≡ t → ((k : ℕ) → k < i → at ts k ≡ t → ⊥) → find t ts ≡ i
find_is t ts i h e none = let r = find_below t ts i h e in ⊎_elim (λ l. absurd (none (find t ts) l r.1)) (λ l. omega (arith, r.0)) (cases_lt (find t ts) i)

pub find_none : (t : Term) (ts : List Term) → ((k : ℕ) → k < length ts → at ts k ≡ t → ⊥) → find t ts ≡ length ts
find_none t ts none = ⊎_elim (λ l. absurd (none (find t ts) l (find_hit t ts l))) (λ l. omega (arith, find_within t ts)) (cases_lt (find t ts) (length ts))

-- one term more at the end
pub find_push_old : (t s : Term) (ts : List Term) → find t ts < length ts → find t (ts ++ (s ∷ [])) ≡ find t ts
find_push_old t s [] h = absurd (omega arith)
find_push_old t s (r ∷ ts) h = go (same r t) h (λ l. find_push_old t s ts l)
  where
    go : (b : Bool) → cond b 0 (suc (find t ts)) < suc (length ts) → (find t ts < length ts → find t (ts ++ (s ∷ [])) ≡ find t ts) → cond b 0 (suc (find t (ts ++ (s ∷ [])))) ≡ cond b 0 (suc (find t ts))
    go true l ih = refl
    go false l ih = ap suc (ih (omega arith))

pub find_push_new : (t : Term) (ts : List Term) → find t (ts ++ (t ∷ [])) ≡ find t ts
find_push_new t [] = cond-true (same t t) 0 1 (same_itself t)
find_push_new t (r ∷ ts) = go (same r t) (find_push_new t ts)
  where
    go : (b : Bool) → find t (ts ++ (t ∷ [])) ≡ find t ts → cond b 0 (suc (find t (ts ++ (t ∷ [])))) ≡ cond b 0 (suc (find t ts))
    go true ih = refl
    go false ih = ap suc ih

-- over a table: the first place of the term at a place
pub first_at : (ns : List Node) (i : ℕ) → i < length ns → (first ns (term ns i) ≤ i) × (term ns (first ns (term ns i)) ≡ term ns i)
first_at ns i h = find_below (term ns i) (terms ns) i (omega (arith, length_terms ns)) refl

pub first_places : FirstPlaces
first_places ns i j h k =
    let p = first_at ns i h in
    let q = first_at ns j k in
    (p.0, p.1, λ e. sym p.1 ∙ ap (term ns) e ∙ q.1, λ e. ap (first ns) e)

-- the place that code reads
pub firsts_at : (ns : List Node) (i : ℕ) (d : NodeNo) → i < length ns → (get_or (firsts ns) i d).0 ≡ first ns (term ns i)
firsts_at ns i d h = ap (λ (n : NodeNo). n.0) (get_or-map (λ t. record { 0 = first ns t }) (terms ns) i (name 0) d (omega (arith, length_terms ns)))

pub first_push : (ns : List Node) (n : Node) (i : ℕ) → i < length ns → first (ns ++ (n ∷ [])) (term ns i) ≡ first ns (term ns i)
first_push ns n i h =
    let l = (first_at ns i h).0 in
    ap (find (term ns i)) (grows ns n) ∙ find_push_old (term ns i) (says (term ns) n) (terms ns) (omega (arith, length_terms ns))

pub first_new : (ns : List Node) (n : Node) → first (ns ++ (n ∷ [])) (says (term ns) n) ≡ first ns (says (term ns) n)
first_new ns n = ap (find (says (term ns) n)) (grows ns n) ∙ find_push_new (says (term ns) n) (terms ns)

map_same : (f g : Term → NodeNo) (ts : List Term) → ((i : ℕ) → i < length ts → f (at ts i) ≡ g (at ts i)) → map f ts ≡ map g ts
map_same f g [] h = refl
map_same f g (t ∷ ts) h = ap₂ ◌∷◌ (h 0 (omega arith)) (map_same f g ts (λ i l. h (suc i) (omega arith)))

pub firsts_push : (ns : List Node) (n : Node) → firsts (ns ++ (n ∷ [])) ≡ firsts ns ++ (record { 0 = first ns (says (term ns) n) } ∷ [])
firsts_push ns n =
    let g : Term → NodeNo = λ t. record { 0 = first (ns ++ (n ∷ [])) t } in
    let f : Term → NodeNo = λ t. record { 0 = first ns t } in
    let s = says (term ns) n in
    let mk : ℕ → NodeNo = λ m. record { 0 = m } in
    ap (map g) (grows ns n)
    ∙ map_push g (terms ns) s
    ∙ ap₂ (λ (l : List NodeNo) (x : NodeNo). l ++ (x ∷ []))
    (map_same g f (terms ns) (λ i h. ap mk (first_push ns n i (omega (arith, length_terms ns)))))
    (ap mk (first_new ns n))

pub firsts_none : firsts [] ≡ []
unfolding terms
firsts_none = refl
