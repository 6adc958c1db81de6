-- The steps of marking, from one mark to all that comes of some.
use Rattle.std.proofs.Common.{◌≡◌, ℕ, ◌+◌, ◌-◌, ◌<◌, Bool, true, false, ◌||◌, List, [], ◌∷◌, ◌++◌, length, get_or, take, set, sym, refl, ap, ◌∙◌, subst, ⊎_elim, arith}
use Rattle.std.proofs.lemmas.List.{length-set, length_push, get_or-set_same, get_or-set_other, get_or_append_left, get_or_push, take_more}
use Rattle.std.proofs.lemmas.Bool.{and_from, and_parts, cases_eq, cases_lt, cond-true, false≢true}
use Rattle.terms.specs.Terms.{Term, name, env, var, pair, seal}
use Rattle.terms.specs.Nodes.{node, says, term, Ordered}
use Rattle.terms.specs.declared.node.Node.{Node}
use Rattle.terms.specs.declared.node.Node.TheVariants.{Pair, Seal}
use Rattle.terms.specs.declared.number.NodeNo.{NodeNo}
use Rattle.terms.proofs.Unfolding.{unfolds}
use Rattle.analysis.specs.Places.{first}
use Rattle.analysis.specs.Parts.{knows, opens, taken, Shut, Grows, Contains, Parts, free}
use Rattle.analysis.specs.Marks.{Above, Marked, Spread, Passing, Settled, Learned, Noting}
use Rattle.analysis.proofs.Settling.{free_set, set_grows}

pub above_same : (ns : List Node) (a b : List Bool) → b ≡ a → Above ns a b
above_same ns a b e = subst (λ (x : List Bool). Above ns a x) (sym e) (λ i m. m, λ other s g. g)

pub above_above : (ns : List Node) (a b c : List Bool) → Above ns a b → Above ns b c → Above ns a c
above_above ns a b c p q = (λ i m. q.0 i (p.0 i m), λ other s g. q.1 other s (p.1 other s g))

-- a set place is one of those that were set, or the new one
set_inside : (a : List Bool) (i : ℕ) (other : List Bool) → Grows a other → get_or other i false ≡ true → Grows (set a i true) other
set_inside a i other g m k e = ⊎_elim (λ p. ap (λ (x : ℕ). get_or other x false) p ∙ m) (λ n. g k (sym (get_or-set_other a i k true false n) ∙ e)) (cases_eq k i)

-- one mark grows the table
pub marked_grows : (a : List Bool) (i : ℕ) (b : List Bool) (r : Bool) → i < length a → Marked a i b r → Grows a b
marked_grows a i b true l m = subst (Grows a) (sym m.1) (set_grows a i l)
marked_grows a i b false l m = subst (Grows a) (sym m.1) (λ k e. e)

pub marked_has : (a : List Bool) (i : ℕ) (b : List Bool) (r : Bool) → i < length a → Marked a i b r → get_or b i false ≡ true
marked_has a i b true l m = ap (λ (x : List Bool). get_or x i false) m.1 ∙ get_or-set_same a i true false l
marked_has a i b false l m = ap (λ (x : List Bool). get_or x i false) m.1 ∙ m.0

pub marked_inside : (a : List Bool) (i : ℕ) (b : List Bool) (r : Bool) (other : List Bool) → Marked a i b r → Grows a other → get_or other i false ≡ true → Grows b other
marked_inside a i b true other m g h = subst (λ (x : List Bool). Grows x other) (sym m.1) (set_inside a i other g h)
marked_inside a i b false other m g h = subst (λ (x : List Bool). Grows x other) (sym m.1) g

pub marked_length : (a : List Bool) (i : ℕ) (b : List Bool) (r : Bool) → Marked a i b r → length b ≡ length a
marked_length a i b true m = ap length m.1 ∙ length-set a i true
marked_length a i b false m = ap length m.1

-- every shut marking that has the marks of a has i too
abbrev Follows : List Node → List Bool → ℕ → Type 0
Follows ns a i = (other : List Bool) → Shut ns other → Grows a other → get_or other i false ≡ true

marked_above : (ns : List Node) (a : List Bool) (i : ℕ) (b : List Bool) (r : Bool) → i < length a → Follows ns a i → Marked a i b r → Above ns a b
marked_above ns a i b r l f m = (marked_grows a i b r l m, λ other s g. marked_inside a i b r other m g (f other s g))

marked_free : (a : List Bool) (i : ℕ) (b : List Bool) → i < length a → Marked a i b true → free b < free a
marked_free a i b l m = rw m.1 (free_set a i l m.0)

-- a term that is not marked has nothing to be taken apart
pub spread_none : (ns : List Node) (a : List Bool) (i : ℕ) (b : List Bool) → b ≡ a → knows ns a (term ns i) ≡ false → Spread ns a i b false
spread_none ns a i b e h = (e, λ t. absurd (false≢true (sym h ∙ t)))

module _ (ns : List Node) (o : Ordered ns) (i : ℕ) (l : i < length ns) where
  -- nor has a name, nor a seal whose key does not open
  pub spread_atom : (a b : List Bool) → b ≡ a → taken (knows ns a) (says (term ns) (node ns i)) ≡ true → Spread ns a i b false
  spread_atom a b e h = (e, λ t. ap (taken (knows ns a)) (unfolds ns o i l) ∙ h)

  module _ (x y : NodeNo) (e : node ns i ≡ Pair x y) where
    pair_term : term ns i ≡ pair (term ns x.0) (term ns y.0)
    pair_term = unfolds ns o i l ∙ ap (says (term ns)) e

    pair_follows : (a other : List Bool) → knows ns a (term ns i) ≡ true → Shut ns other → Grows a other → (knows ns other (term ns x.0) ≡ true) × (knows ns other (term ns y.0) ≡ true)
    pair_follows a other h s g =
        and_parts (knows ns other (term ns x.0)) (knows ns other (term ns y.0))
        (sym (ap (taken (knows ns other)) pair_term) ∙ s i l (g (first ns (term ns i)) h))

    both_spread : (a b c : List Bool) (p q : Bool) → first ns (term ns x.0) < length a → first ns (term ns y.0) < length a → knows ns a (term ns i) ≡ true → Marked a (first ns (term ns x.0)) b p → Marked b (first ns (term ns y.0)) c q → Above ns a c
    both_spread a b c p q lx ly h m n =
        let fx : Follows ns a (first ns (term ns x.0)) = λ other s g. (pair_follows a other h s g).0 in
        let g₁ = marked_grows a (first ns (term ns x.0)) b p lx m in
        let fy : Follows ns b (first ns (term ns y.0)) = λ other s g. (pair_follows b other (g₁ (first ns (term ns i)) h) s g).1 in
        let lb : first ns (term ns y.0) < length b = omega (arith, marked_length a (first ns (term ns x.0)) b p m) in
        above_above ns a b c (marked_above ns a _ b p lx fx m) (marked_above ns b _ c q lb fy n)

    pub spread_pair : (a b c : List Bool) (p q : Bool) → first ns (term ns x.0) < length a → first ns (term ns y.0) < length a → knows ns a (term ns i) ≡ true → Marked a (first ns (term ns x.0)) b p → Marked b (first ns (term ns y.0)) c q → Spread ns a i c (p || q)
    spread_pair a b c true true lx ly h m n =
        let lb = marked_length a (first ns (term ns x.0)) b true m in
        (both_spread a b c true true lx ly h m n, omega (arith, marked_free a _ b lx m, marked_free b (first ns (term ns y.0)) c (omega arith) n))
    spread_pair a b c true false lx ly h m n = (both_spread a b c true false lx ly h m n, rw n.1 (marked_free a _ b lx m))
    spread_pair a b c false true lx ly h m n =
        let lb = marked_length a (first ns (term ns x.0)) b false m in
        (both_spread a b c false true lx ly h m n, subst (λ (z : List Bool). free c < free z) m.1 (marked_free b (first ns (term ns y.0)) c (omega arith) n))
    spread_pair a b c false false lx ly h m n = (
      n.1 ∙ m.1,
      λ t. ap (taken (knows ns a)) pair_term
          ∙ and_from (knows ns a (term ns x.0)) (knows ns a (term ns y.0)) m.0 (ap (λ (z : List Bool). get_or z (first ns (term ns y.0)) false) (sym m.1) ∙ n.0),
    )

  module _ (x y : NodeNo) (e : node ns i ≡ Seal x y) where
    seal_term : term ns i ≡ seal (term ns x.0) (term ns y.0)
    seal_term = unfolds ns o i l ∙ ap (says (term ns)) e

    -- more marks open no less
    opens_more : (f g : Term → Bool) (t : Term) → (f t ≡ true → g t ≡ true) → opens f t ≡ true → opens g t ≡ true
    opens_more f g (name n) m h = m h
    opens_more f g (env n) m h = refl
    opens_more f g (var n) m h = absurd (false≢true h)
    opens_more f g (pair u v) m h = absurd (false≢true h)
    opens_more f g (seal u v) m h = absurd (false≢true h)

    pub spread_seal : (a b : List Bool) (r : Bool) → first ns (term ns x.0) < length a → knows ns a (term ns i) ≡ true → opens (knows ns a) (term ns y.0) ≡ true → Marked a (first ns (term ns x.0)) b r → Spread ns a i b r
    spread_seal a b true lx h k m = (
      marked_above ns a _ b true lx
          (λ other s g.
          let t = sym (ap (taken (knows ns other)) seal_term) ∙ s i l (g (first ns (term ns i)) h) in
          let z = opens_more (knows ns a) (knows ns other) (term ns y.0) (g (first ns (term ns y.0))) k in
          sym (cond-true (opens (knows ns other) (term ns y.0)) (knows ns other (term ns x.0)) true z) ∙ t)
          m,
      marked_free a _ b lx m,
    )
    spread_seal a b false lx h k m = (m.1, λ t. ap (taken (knows ns a)) seal_term ∙ cond-true (opens (knows ns a) (term ns y.0)) (knows ns a (term ns x.0)) true k ∙ m.0)

-- which of two answers a choice gives
pub or_first : (ns : List Node) (a : List Bool) (i : ℕ) (b : List Bool) (p q : Bool) → p ≡ true → Spread ns a i b (p || q) → Spread ns a i b p
or_first ns a i b p q e s = subst (λ (r : Bool). Spread ns a i b r) (ap (λ (x : Bool). x || q) e ∙ sym e) s

pub or_second : (ns : List Node) (a : List Bool) (i : ℕ) (b : List Bool) (p q : Bool) → p ≡ false → Spread ns a i b (p || q) → Spread ns a i b q
or_second ns a i b p q e s = subst (λ (r : Bool). Spread ns a i b r) (ap (λ (x : Bool). x || q) e) s

pub passing_more : (ns : List Node) (a b c : List Bool) (i : ℕ) (p : Bool) → 0 < i → Passing ns a i b p → Spread ns b (i - 1) c true → Passing ns a (i - 1) c true
passing_more ns a b c i true z s m = (above_above ns a b c s.0 m.0, omega (arith, s.1, m.1))
passing_more ns a b c i false z s m = (subst (λ (x : List Bool). Above ns x c) s.0 m.0, subst (λ (x : List Bool). free c < free x) s.0 m.1)

pub passed_above : (ns : List Node) (a b : List Bool) (p : Bool) → Passing ns a 0 b p → Above ns a b
passed_above ns a b true s = s.0
passed_above ns a b false s = above_same ns a b s.0

contains_push : (ns : List Node) (noted : List ℕ) (p : ℕ) (b : List Bool) → Contains ns noted b → knows ns b (term ns p) ≡ true → Contains ns (noted ++ (p ∷ [])) b
contains_push ns noted p b c h k l =
    ⊎_elim
    (λ s. ap (λ (x : ℕ). knows ns b (term ns x)) (get_or_append_left noted (p ∷ []) 0 k s) ∙ c k s)
    (λ s. let e : length noted ≡ k = omega (arith, length_push noted p) in ap (λ (x : ℕ). knows ns b (term ns x)) (get_or_push noted p 0 k e) ∙ h)
    (cases_lt k (length noted))

contains_front : (ns : List Node) (noted : List ℕ) (p : ℕ) (b : List Bool) → Contains ns (noted ++ (p ∷ [])) b → Contains ns noted b × (knows ns b (term ns p) ≡ true)
contains_front ns noted p b c = (
  λ k l. ap (λ (x : ℕ). knows ns b (term ns x)) (sym (get_or_append_left noted (p ∷ []) 0 k l)) ∙ c k (omega (arith, length_push noted p)),
  ap (λ (x : ℕ). knows ns b (term ns x)) (sym (get_or_push noted p 0 (length noted) refl)) ∙ c (length noted) (omega (arith, length_push noted p)),
)

pub noting_push : (ns : List Node) (noted : List ℕ) (p : ℕ) (a b : List Bool) (r : Bool) → first ns (term ns p) < length a → Noting ns noted a → Marked a (first ns (term ns p)) b r → Noting ns (noted ++ (p ∷ [])) b
noting_push ns noted p a b r l n m =
    let g = marked_grows a (first ns (term ns p)) b r l m in (
      contains_push ns noted p b (λ k h. g (first ns (term ns (get_or noted k 0))) (n.0 k h)) (marked_has a (first ns (term ns p)) b r l m),
      λ other c. let f = contains_front ns noted p other c in marked_inside a (first ns (term ns p)) b r other m (n.1 other f.0) f.1,
    )

pub noting_more : (ns : List Node) (noted : List ℕ) (k : ℕ) (a b : List Bool) (r : Bool) → k < length noted → first ns (term ns (get_or noted k 0)) < length a → Noting ns (take k noted) a → Marked a (first ns (term ns (get_or noted k 0))) b r → Noting ns (take (k + 1) noted) b
noting_more ns noted k a b r h l n m = rw (take_more noted k 0 h) (noting_push ns (take k noted) (get_or noted k 0) a b r l n m)

-- the marks of the noted places and all that comes of them are the parts
pub settled_parts : (ns : List Node) (noted : List ℕ) (a b : List Bool) → length b ≡ length ns → Noting ns noted a → Settled ns a b → Parts ns noted b
settled_parts ns noted a b l n s =
    record {
      size = l;
      contains = λ k h. s.0.0 (first ns (term ns (get_or noted k 0))) (n.0 k h);
      shut = s.1;
      least = λ other. s.0.1 other.marks other.shut (n.1 other.marks other.contains);
    }

-- one more noted place, where the parts of the others are known
pub noted_parts : (ns : List Node) (noted : List ℕ) (p : ℕ) (a c : List Bool) → length c ≡ length ns → first ns (term ns p) < length a → Parts ns noted a → Learned ns a (first ns (term ns p)) c → Parts ns (noted ++ (p ∷ [])) c
noted_parts ns noted p a c l w q (b, r, m, s) =
    let g = marked_grows a (first ns (term ns p)) b r w m in
    record {
      size = l;
      contains = contains_push ns noted p c (λ k h. s.0.0 (first ns (term ns (get_or noted k 0))) (g (first ns (term ns (get_or noted k 0))) (q.contains k h))) (s.0.0 (first ns (term ns p)) (marked_has a (first ns (term ns p)) b r w m));
      shut = s.1;
      least = λ other. let h = contains_front ns noted p other.marks other.contains in
          let g = q.least (record { marks = other.marks; shut = other.shut; contains = h.0 }) in
          s.0.1 other.marks other.shut (marked_inside a (first ns (term ns p)) b r other.marks m g h.1);
    }
