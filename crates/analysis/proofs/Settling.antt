-- Over a table in order there is a marking that is shut, holds the noted terms and marks derived terms only.
use Rattle.std.proofs.Common.{◌≡◌, ℕ, zero, suc, ◌<◌, ◌≤◌, Bool, true, false, ◌⊎◌, List, [], ◌∷◌, length, get_or, set, replicate, sym, refl, ap, ◌∙◌, subst, inl, inr, ⊎_elim, arith}
use Rattle.std.proofs.lemmas.List.{length-set, length-replicate, get_or-replicate, get_or-set_same, get_or-set_other}
use Rattle.std.proofs.lemmas.Bool.{and_from, cases_Bool, cases_eq, cases_lt, cond-true, cond-false, both_ways, false≢true}
use Rattle.terms.specs.Terms.{Term, name, env, var, pair, seal, IsName}
use Rattle.terms.specs.Nodes.{node, says, term, Below, Ordered}
use Rattle.terms.specs.declared.node.Node.{Node}
use Rattle.terms.specs.declared.node.Node.TheVariants.{Name, Env, Var, Pair, Seal}
use Rattle.terms.proofs.Unfolding.{unfolds}
use Rattle.derivation.specs.Derive.{Derives, public, left, right, open_seal}
use Rattle.derivation.specs.Noted.{Held}
use Rattle.analysis.specs.Places.{first}
use Rattle.analysis.specs.Parts.{knows, opens, taken, Shut, Grows, Contains, free}
use Rattle.analysis.proofs.Finding.{first_at, first_places}

-- marking a place that was not marked leaves one fewer
pub free_set : (a : List Bool) (i : ℕ) → i < length a → get_or a i false ≡ false → free (set a i true) < free a
free_set [] i h e = absurd (omega arith)
free_set (true ∷ a) zero h e = absurd (false≢true (sym e))
free_set (false ∷ a) zero h e = omega arith
free_set (true ∷ a) (suc i) h e = free_set a i (omega arith) e
free_set (false ∷ a) (suc i) h e = omega (arith, free_set a i (omega arith) e)

pub set_grows : (a : List Bool) (i : ℕ) → i < length a → Grows a (set a i true)
set_grows a i h k e = ⊎_elim (λ p. rw p (get_or-set_same a i true false h)) (λ n. get_or-set_other a i k true false n ∙ e) (cases_eq k i)

-- what holds of each number below n, or something else
all_or : (A : ℕ → Type 0) (B : Type 0) (n : ℕ) → ((i : ℕ) → i < n → A i ⊎ B) → ((i : ℕ) → i < n → A i) ⊎ B
all_or A B zero h = inl (λ i l. absurd (omega arith))
all_or A B (suc n) h =
    ⊎_elim
    (λ below. ⊎_elim (λ here. inl (λ i l. ⊎_elim (λ m. below i m) (λ m. let e : n ≡ i = omega arith in subst A e here) (cases_lt i n))) (λ b. inr b) (h n (omega arith)))
    (λ b. inr b)
    (all_or A B n (λ i l. h i (omega arith)))

-- a key that opens is a derived name
pub open_key : (K : List Term) (kn : Term → Bool) (t : Term) → (kn t ≡ true → Derives K t) → opens kn t ≡ true → IsName t × Derives K t
open_key K kn (name n) s e = (tt, s e)
open_key K kn (env n) s e = (tt, public n)
open_key K kn (var x) s e = absurd (false≢true e)
open_key K kn (pair a b) s e = absurd (false≢true e)
open_key K kn (seal a b) s e = absurd (false≢true e)

module _ (ns : List Node) (o : Ordered ns) (K : List Term) where
  -- every marked term is derived
  abbrev Sound : List Bool → Type 0
  Sound S = (i : ℕ) → i < length ns → knows ns S (term ns i) ≡ true → Derives K (term ns i)

  -- a derived term that is not marked
  abbrev Missing : List Bool → Type 0
  Missing S = (j : ℕ) × (j < length ns) × (knows ns S (term ns j) ≡ false) × Derives K (term ns j)

  sound_set : (S : List Bool) (j : ℕ) → j < length ns → Sound S → Derives K (term ns j) → Sound (set S (first ns (term ns j)) true)
  sound_set S j h s d i l e =
      ⊎_elim
      (λ p. subst (Derives K) ((first_places ns j i h l).2 (sym p)) d)
      (λ n. s i l (sym (get_or-set_other S (first ns (term ns j)) (first ns (term ns i)) true false n) ∙ e))
      (cases_eq (first ns (term ns i)) (first ns (term ns j)))

  part_or : (S : List Bool) (i : ℕ) → i < length ns → Sound S → (n : Node) → Below i n → Derives K (says (term ns) n) → (taken (knows ns S) (says (term ns) n) ≡ true) ⊎ Missing S
  part_or S i l s (Name n) b d = inl refl
  part_or S i l s (Env n) b d = inl refl
  part_or S i l s (Var n) b d = inl refl
  part_or S i l s (Pair x y) b d =
      let kn = knows ns S in
      let lx : x.0 < length ns = omega (arith, b.0) in
      let ly : y.0 < length ns = omega (arith, b.1) in
      ⊎_elim
      (λ p. ⊎_elim (λ q. inl (and_from (kn (term ns x.0)) (kn (term ns y.0)) p q)) (λ q. inr (y.0, ly, q, right d)) (cases_Bool (kn (term ns y.0))))
      (λ p. inr (x.0, lx, p, left d))
      (cases_Bool (kn (term ns x.0)))
  part_or S i l s (Seal x y) b d =
      let kn = knows ns S in
      let lx : x.0 < length ns = omega (arith, b.0) in
      let ly : y.0 < length ns = omega (arith, b.1) in
      ⊎_elim
      (λ p. let k = open_key K kn (term ns y.0) (s y.0 ly) p in
      ⊎_elim (λ q. inl (cond-true (opens kn (term ns y.0)) (kn (term ns x.0)) true p ∙ q)) (λ q. inr (x.0, lx, q, open_seal d k.0 k.1)) (cases_Bool (kn (term ns x.0))))
      (λ p. inl (cond-false (opens kn (term ns y.0)) (kn (term ns x.0)) true p))
      (cases_Bool (opens kn (term ns y.0)))

  shut_or : (S : List Bool) → Sound S → Shut ns S ⊎ Missing S
  shut_or S s =
      all_or (λ i. knows ns S (term ns i) ≡ true → taken (knows ns S) (term ns i) ≡ true) (Missing S) (length ns)
      (λ i l.
      ⊎_elim
      (λ e. let u = unfolds ns o i l in
      ⊎_elim (λ t. inl (λ f. ap (taken (knows ns S)) u ∙ t)) (λ m. inr m) (part_or S i l s (node ns i) (o i l) (subst (Derives K) u (s i l e))))
      (λ e. inl (λ f. absurd (both_ways (knows ns S (term ns i)) e f)))
      (cases_Bool (knows ns S (term ns i))))

  -- marks what is missing until nothing is
  settle : (n : ℕ) (S : List Bool) → free S ≤ n → length S ≡ length ns → Sound S → (R : List Bool) × Shut ns R × Sound R × Grows S R
  settle zero S f l s =
      ⊎_elim (λ h. (S, h, s, λ i e. e))
      (λ m. absurd (let p = (first_at ns m.0 m.1).0 in omega (arith, free_set S (first ns (term ns m.0)) (omega arith) m.2)))
      (shut_or S s)
  settle (suc n) S f l s =
      ⊎_elim (λ h. (S, h, s, λ i e. e))
      (λ m. let j = first ns (term ns m.0) in
      let p = (first_at ns m.0 m.1).0 in
      let w : j < length S = omega arith in
      let r = settle n (set S j true) (omega (arith, free_set S j w m.2)) (length-set S j true ∙ l) (sound_set S m.0 m.1 s m.3) in
      (r.0, r.1, r.2, λ i e. r.3 i (set_grows S j w i e)))
      (shut_or S s)

  start : (ys : List ℕ) → Held ns ys → ((k : ℕ) → k < length ys → Derives K (term ns (get_or ys k 0))) → (S : List Bool) × (length S ≡ length ns) × Sound S × Contains ns ys S
  start [] h d = (
    replicate (length ns) false,
    length-replicate (length ns) false,
    λ i l e. let p = (first_at ns i l).0 in absurd (false≢true (sym (get_or-replicate (length ns) (first ns (term ns i)) false false (omega arith)) ∙ e)),
    λ k l. absurd (omega arith),
  )
  start (y ∷ ys) h d =
      let r = start ys (λ k l. h (suc k) (omega arith)) (λ k l. d (suc k) (omega arith)) in
      let ly = h 0 (omega arith) in
      let j = first ns (term ns y) in
      let p = (first_at ns y ly).0 in
      let w : j < length r.0 = omega (arith, r.1) in
      (set r.0 j true, length-set r.0 j true ∙ r.1, sound_set r.0 y ly r.2 (d 0 (omega arith)), contains r.0 j w r.3)
    where
      contains : (S : List Bool) (j : ℕ) → first ns (term ns y) < length S → Contains ns ys S → Contains ns (y ∷ ys) (set S (first ns (term ns y)) true)
      contains S j w c zero l = get_or-set_same S (first ns (term ns y)) true false w
      contains S j w c (suc k) l = set_grows S (first ns (term ns y)) w (first ns (term ns (get_or ys k 0))) (c k (omega arith))

pub sound_marking : (ns : List Node) → Ordered ns → (K : List Term) (ys : List ℕ) → Held ns ys → ((k : ℕ) → k < length ys → Derives K (term ns (get_or ys k 0))) → (R : List Bool) × Shut ns R × Contains ns ys R × ((i : ℕ) → i < length ns → knows ns R (term ns i) ≡ true → Derives K (term ns i))
sound_marking ns o K ys h d =
    let s = start ns o K ys h d in
    let r = settle ns o K (free s.0) s.0 (omega arith) s.1 s.2 in
    (r.0, r.1, λ k l. r.3 (first ns (term ns (get_or ys k 0))) (s.3 k l), r.2)
