-- Each step of matching keeps the solutions.
use mathlib.Core.Path.{◌≡◌, refl, sym, ap, ◌∙◌, subst}
use mathlib.Core.Logic.{◌⊎◌}
use mathlib.Core.List.{List, [], ◌∷◌, ◌++◌}
use Prim.Native.Nat.{ℕ, zero, suc, ◌<◌}
use native.Mathlib.Decide.{ℕ_discrete}
use native.Mathlib.Omega.{arith}
use lib.ListN.{length, set, length-set}
use lib.Seq.{get_or-set_same, get_or-set_other}
use Rattle.terms.specs.Terms.{Term}
use Rattle.terms.specs.declared.number.NodeNo.{NodeNo}
use Rattle.terms.specs.declared.node.Node.{Node}
use Rattle.unification.specs.Sizes.{size}
use Rattle.unification.specs.Bindings.{val, Instance}
use Rattle.unification.specs.Classes.{up, Own, Near, Each, Across, Linked, Alike, Move, Never, Solved, Unsolvable}
use Rattle.unification.specs.declared.binding.Binding.{Binding}
use Rattle.unification.specs.declared.ask.Ask.{Ask}
use Rattle.unification.proofs.Nearness.{near_eq, near_zero, near_all}

-- the pair of two nodes that are to be equal
abbrev pub ask : ℕ → ℕ → Ask
ask a b = record { left = record { 0 = a }; right = record { 0 = b } }

pub each_snoc : (Q : Ask → Type 0) (W : List Ask) (w : Ask) → Each Q W → Q w → Each Q (W ++ (w ∷ []))
each_snoc Q [] w a h = (h, tt)
each_snoc Q (x ∷ xs) w a h = (a.0, each_snoc Q xs w a.1 h)

pub each_front : (Q : Ask → Type 0) (W : List Ask) (w : Ask) → Each Q (W ++ (w ∷ [])) → Each Q W
each_front Q [] w a = tt
each_front Q (x ∷ xs) w a = (a.0, each_front Q xs w a.1)

pub each_last : (Q : Ask → Type 0) (W : List Ask) (w : Ask) → Each Q (W ++ (w ∷ [])) → Q w
each_last Q [] w a = a.0
each_last Q (x ∷ xs) w a = each_last Q xs w a.1

-- the parents after one was written
pub up_same : (P : List NodeNo) (hi : ℕ) (lo : NodeNo) → hi < length P → up (set P hi lo) hi ≡ lo.0
up_same P hi lo h = ap (λ (p : NodeNo). p.0) (get_or-set_same P hi lo (record { 0 = 0 }) h)

pub up_other : (P : List NodeNo) (hi i : ℕ) (lo : NodeNo) → (i ≡ hi → ⊥) → up (set P hi lo) i ≡ up P i
up_other P hi i lo n = ap (λ (p : NodeNo). p.0) (get_or-set_other P hi i lo (record { 0 = 0 }) n)

-- a table of classes after a root was linked
linked_set : (R : ℕ → ℕ → Type 0) (P : List NodeNo) (hi : ℕ) (lo : NodeNo) → hi < length P → Linked R P → R hi lo.0 → Linked R (set P hi lo)
linked_set R P hi lo h all e i l =
    elim (ℕ_discrete i hi) [
      | yes p ↦ subst (λ (k : ℕ). R k (up (set P hi lo) k)) (sym p) (subst (λ (j : ℕ). R hi j) (sym (up_same P hi lo h)) e)
      | no n ↦ subst (λ (j : ℕ). R i j) (sym (up_other P hi i lo n)) (all i (omega (arith, length-set P hi lo)))
    ]

linked_back : (R : ℕ → ℕ → Type 0) (P : List NodeNo) (hi : ℕ) (lo : NodeNo) → hi < length P → up P hi ≡ hi → ((i : ℕ) → R i i) → Linked R (set P hi lo) → Linked R P
linked_back R P hi lo h root same all i l =
    elim (ℕ_discrete i hi) [
      | yes p ↦ subst (λ (k : ℕ). R k (up P k)) (sym p) (subst (λ (j : ℕ). R hi j) (sym root) (same hi))
      | no n ↦ subst (λ (j : ℕ). R i j) (up_other P hi i lo n) (all i (omega (arith, length-set P hi lo)))
    ]

linked_new : (R : ℕ → ℕ → Type 0) (P : List NodeNo) (hi : ℕ) (lo : NodeNo) → hi < length P → Linked R (set P hi lo) → R hi lo.0
linked_new R P hi lo h all = subst (λ (j : ℕ). R hi j) (up_same P hi lo h) (all hi (omega (arith, length-set P hi lo)))

module _ (ns : List Node) where
  pub move_refl : (B : List Binding) (P : List NodeNo) (W : List Ask) → Move ns B P W B P W
  move_refl B P W = record {
    grows = λ θ i. i;
    covers = λ θ n i b. b;
    right = λ θ n i b l. l;
    keeps = λ θ i e. (i, e);
  }

  pub move_trans : (B : List Binding) (P : List NodeNo) (W : List Ask) (B' : List Binding) (P' : List NodeNo) (W' : List Ask) (B'' : List Binding) (P'' : List NodeNo) (W'' : List Ask) → Move ns B P W B' P' W' → Move ns B' P' W' B'' P'' W'' → Move ns B P W B'' P'' W''
  move_trans B P W B' P' W' B'' P'' W'' m k = record {
    grows = λ θ i. m.grows θ (k.grows θ i);
    covers = λ θ n i b. m.covers θ n (k.grows θ i) (k.covers θ n i b);
    right = λ θ n i b l. k.right θ n i b (m.right θ n (k.grows θ i) (k.covers θ n i b) l);
    keeps = λ θ i e. let r = m.keeps θ i e in k.keeps θ r.0 r.1;
  }

  -- the last pair goes: it follows from the links and the new bindings
  pub move_solve : (B B' : List Binding) (P : List NodeNo) (W : List Ask) (w : Ask) →
      ((θ : ℕ → Term) → Instance ns B' θ → Instance ns B θ) →
      ((θ : ℕ → Term) (n : ℕ) → Instance ns B' θ → Linked (Near (val ns θ) n) P → Across (Near (val ns θ) n) w) →
      ((θ : ℕ → Term) → Instance ns B θ → Across (Alike (val ns θ)) w → Instance ns B' θ) →
      Move ns B P (W ++ (w ∷ [])) B' P W
  move_solve B B' P W w back near down = record {
    grows = back;
    covers = λ θ n i b. (each_snoc (Across (Near (val ns θ) n)) W w b.0 (near θ n i b.1), b.1);
    right = λ θ n i b l. l;
    keeps = λ θ i e. (down θ i (each_last (Across (Alike (val ns θ))) W w e.0), (each_front (Across (Alike (val ns θ))) W w e.0, e.1));
  }

  -- the last pair goes, its two classes are one, and two pairs of parts wait
  pub move_join : (B : List Binding) (P : List NodeNo) (W : List Ask) (w s t : Ask) (c d hi : ℕ) (lo : NodeNo) →
      hi < length P → up P hi ≡ hi →
      ((θ : ℕ → Term) → Instance ns B θ → val ns θ w.left.0 ≡ val ns θ c) →
      ((θ : ℕ → Term) → Instance ns B θ → val ns θ w.right.0 ≡ val ns θ d) →
      ((v : ℕ → Term) (n : ℕ) → Linked (Near v n) P → Near v n hi lo.0 → Near v n c d) →
      ((v : ℕ → Term) (n : ℕ) → Linked (Near v n) P → Near v n c d → Near v n hi lo.0) →
      ((θ : ℕ → Term) (n : ℕ) → Across (Near (val ns θ) n) s → Across (Near (val ns θ) n) t → Near (val ns θ) (suc n) c d) →
      ((θ : ℕ → Term) → val ns θ c ≡ val ns θ d → Across (Alike (val ns θ)) s × Across (Alike (val ns θ)) t) →
      Move ns B P (W ++ (w ∷ [])) B (set P hi lo) ((W ++ (s ∷ [])) ++ (t ∷ []))
  move_join B P W w s t c d hi lo h root same-c same-d path edge build parts = record {
    grows = λ θ i. i;
    covers = λ θ n i b.
        let v = val ns θ in
        let near : Ask → Type 0 = Across (Near v n) in
        let old : Linked (Near v n) P = linked_back (Near v n) P hi lo h root (λ i. near_eq v n i i refl) b.1 in
        let cd : Near v n c d = path v n old (linked_new (Near v n) P hi lo h b.1) in
        (each_snoc near W w (each_front near W s (each_front near (W ++ (s ∷ [])) t b.0)) (λ k. same-c θ i ∙ cd (subst (λ (x : Term). (size x < n) ⊎ (size (v d) < n)) (same-c θ i) (subst (λ (x : Term). (size (v w.left.0) < n) ⊎ (size x < n)) (same-d θ i) k)) ∙ sym (same-d θ i)), old);
    right = λ θ n i b l.
        let v = val ns θ in
        let near : Ask → Type 0 = Across (Near v n) in
        linked_set (Near v (suc n)) P hi lo h l (edge v (suc n) l (build θ n (each_last near W s (each_front near (W ++ (s ∷ [])) t b.0)) (each_last near (W ++ (s ∷ [])) t b.0)));
    keeps = λ θ i e.
        let v = val ns θ in
        let equal : Ask → Type 0 = Across (Alike v) in
        let cd : v c ≡ v d = sym (same-c θ i) ∙ each_last equal W w e.0 ∙ same-d θ i in
        let ps = parts θ cd in
        (i, (each_snoc equal (W ++ (s ∷ [])) t (each_snoc equal W s (each_front equal W w e.0) ps.0) ps.1, linked_set (Alike v) P hi lo h e.1 (near_all v hi lo.0 (λ n. edge v n (λ i hi. near_eq v n i (up P i) (e.1 i hi)) (near_eq v n c d cd)))));
  }

  -- at the end every link holds, by induction on the number of parts
  links : (B B' : List Binding) (P P' : List NodeNo) (W : List Ask) → Move ns B P W B' P' [] → Own P → (θ : ℕ → Term) → Instance ns B' θ → (n : ℕ) → Linked (Near (val ns θ) n) P'
  links B B' P P' W m own θ i zero = λ k h. near_zero (val ns θ) k (up P' k)
  links B B' P P' W m own θ i (suc n) =
      m.right θ n i (tt, links B B' P P' W m own θ i n) (λ k h. near_eq (val ns θ) (suc n) k (up P k) (ap (val ns θ) (sym (own k h))))

  pub solved : (B B' : List Binding) (P P' : List NodeNo) (a b : ℕ) → Move ns B P (ask a b ∷ []) B' P' [] → Own P → Solved ns B a b B'
  solved B B' P P' a b m own = record {
    sound = λ θ i. (m.grows θ i, near_all (val ns θ) a b (λ n. (m.covers θ n i (tt, links B B' P P' (ask a b ∷ []) m own θ i n)).0.0));
    complete = λ θ i e. (m.keeps θ i ((e, tt), λ k h. ap (val ns θ) (sym (own k h)))).0;
  }

  pub unsolvable : (B B' : List Binding) (P P' : List NodeNo) (W' : List Ask) (a b : ℕ) → Move ns B P (ask a b ∷ []) B' P' W' → Own P → Never ns B' P' W' → Unsolvable ns B a b
  unsolvable B B' P P' W' a b m own never θ i e =
      let r = m.keeps θ i ((e, tt), λ k h. ap (val ns θ) (sym (own k h))) in
      never θ r.0 r.1
