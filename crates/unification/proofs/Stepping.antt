-- The ways through one step of matching.
use mathlib.Core.Path.{◌≡◌, refl, sym, ap, ◌∙◌, subst}
use mathlib.Core.Bool.{Bool, true, false}
use mathlib.Core.Logic.{◌⊎◌, inl, inr, ∥∥₁_map}
use mathlib.Core.List.{List, [], ◌∷◌, ◌++◌}
use Prim.Native.Nat.{ℕ, suc, ◌<◌, ◌≤◌}
use native.Mathlib.Decide.{ℕ_discrete}
use native.Mathlib.Omega.{arith}
use lib.ListN.{length, set, take, length-set, length-append}
use lib.Seq.{take-append-le}
use Rattle.std.proofs.lemmas.Bool.{true≢false}
use Rattle.terms.specs.Terms.{Term, pair, seal}
use Rattle.terms.specs.Nodes.{node, Below, Ordered}
use Rattle.terms.specs.declared.number.NodeNo.{NodeNo}
use Rattle.terms.specs.declared.number.Variable.{Variable}
use Rattle.terms.specs.declared.node.Node.{Node}
use Rattle.terms.specs.declared.node.Node.TheVariants.{Var, Pair, Seal}
use Rattle.unification.specs.Sizes.{size}
use Rattle.unification.specs.Bindings.{val, Instance, Unbound, Good, Walked}
use Rattle.unification.specs.Reaching.{Apart, Start, Inside}
use Rattle.unification.specs.Asking.{Tells}
use Rattle.unification.specs.Classes.{up, Lower, Near, Across, Alike, Equal, Move, Known, United}
use Rattle.unification.specs.Steps.{with_binding, Assigned, Stepped}
use Rattle.unification.specs.declared.binding.Binding.{Binding}
use Rattle.unification.specs.declared.ask.Ask.{Ask}
use Rattle.unification.specs.declared.ask.Compared.TheVariants.{Same, Clash, Left, Right, Parts}
use Rattle.unification.proofs.Values.{val_is, val_law}
use Rattle.unification.proofs.Nearness.{near_eq, near_pair, near_seal}
use Rattle.unification.proofs.Ranking.{good_snoc, instance_old, instance_new, instance_snoc}
use Rattle.unification.proofs.Moves.{each_snoc, each_last, up_same, up_other, move_solve, move_join}
use Rattle.unification.proofs.Counting.{heads_set}

pub assigned : (ns : List Node) (B B' : List Binding) (x n : ℕ) → ∥ Good ns B ∥₁ → n < length ns → Unbound B x → Start ns B x n → Apart ns B x n → B' ≡ with_binding B x n → Assigned ns B x n B' true
assigned ns B B' x n g h u st a e = record {
  good = subst (λ (C : List Binding). ∥ Good ns C ∥₁) (sym e) (∥∥₁_map g (λ k. good_snoc ns B x n a h k u st));
  puts = λ t. e;
  stays = λ f. absurd (true≢false f);
}

pub refused : (ns : List Node) (B : List Binding) (x n : ℕ) → ∥ Good ns B ∥₁ → Inside ns B x n → Assigned ns B x n B false
refused ns B x n g i = record { good = g; puts = λ t. absurd t; stays = λ f. (refl, i) }

pub lower_set : (P : List NodeNo) (hi : ℕ) (lo : NodeNo) → hi < length P → lo.0 < hi → Lower P → Lower (set P hi lo)
lower_set P hi lo h l low k m =
    elim (ℕ_discrete k hi) [
      | yes e ↦ let a = up_same P hi lo h in subst (λ (j : ℕ). up (set P hi lo) j ≤ j) (sym e) (omega arith)
      | no f ↦ let a = up_other P hi k lo f in let b = low k (omega (arith, length-set P hi lo)) in omega arith
    ]

too_small : (a b : Term) → a ≡ b → size a < size b → ⊥
too_small a b e h = let s : size a ≡ size b = ap size e in omega arith

module _ (ns : List Node) (ordered : Ordered ns) (B : List Binding) (P : List NodeNo) (W : List Ask) (w : Ask) (c d : ℕ) (to-c : Walked ns B w.left.0 c) (to-d : Walked ns B w.right.0 d) (good : ∥ Good ns B ∥₁) (low : Lower P) where
  both : (θ : ℕ → Term) → Instance ns B θ → Equal (val ns θ) P (W ++ (w ∷ [])) → val ns θ c ≡ val ns θ d
  both θ i e = sym (to-c.same θ i) ∙ each_last (Across (Alike (val ns θ))) W w e.0 ∙ to-d.same θ i

  pub step_same : Tells (node ns c) (node ns d) Same → Stepped ns B P W w B P W true
  step_same tells = record {
    goes = λ t. move_solve ns B B P W w (λ θ i. i)
        (λ θ n i l. near_eq (val ns θ) n w.left.0 w.right.0 (to-c.same θ i ∙ val_law ns ordered θ c to-c.within ∙ tells θ (val ns θ) ∙ sym (val_law ns ordered θ d to-d.within) ∙ sym (to-d.same θ i)))
        (λ θ i e. i);
    stops = λ f. absurd (true≢false f);
    good = good;
    front = λ n h. refl;
    longer = omega arith;
    lower = low;
    same_length = refl;
    room = λ r. r;
    less = omega arith;
    tall = omega arith;
  }

  pub step_clash : Tells (node ns c) (node ns d) Clash → Stepped ns B P W w B P W false
  step_clash tells = record {
    goes = λ t. absurd t;
    stops = λ f θ i e. tells θ (val ns θ) (sym (val_law ns ordered θ c to-c.within) ∙ both θ i e ∙ val_law ns ordered θ d to-d.within);
    good = good;
    front = λ n h. refl;
    longer = omega arith;
    lower = low;
    same_length = refl;
    room = λ r. r;
    less = omega arith;
    tall = omega arith;
  }

  -- the variable at one end bound to the other end
  bound_move : (B' : List Binding) (x m : ℕ) → B' ≡ with_binding B x m →
      ((θ : ℕ → Term) → Instance ns B θ → θ x ≡ val ns θ m → Across (Alike (val ns θ)) w) →
      ((θ : ℕ → Term) → Instance ns B θ → Across (Alike (val ns θ)) w → θ x ≡ val ns θ m) →
      Move ns B P (W ++ (w ∷ [])) B' P W
  bound_move B' x m e there back =
      let b : Binding = record { variable = record { 0 = x }; node = record { 0 = m } } in
      subst (λ (C : List Binding). Move ns B P (W ++ (w ∷ [])) C P W) (sym e)
      (move_solve ns B (with_binding B x m) P W w (λ θ i. instance_old ns B b θ i)
      (λ θ n i l. near_eq (val ns θ) n w.left.0 w.right.0 (there θ (instance_old ns B b θ i) (instance_new ns B b θ i)))
      (λ θ i q. instance_snoc ns B b θ i (back θ i q)))

  -- a variable was to be bound: bound to the node at the other end, or that has the variable inside
  step_bound : (B' : List Binding) (x m : ℕ) (answer : Bool) →
      ((θ : ℕ → Term) → Instance ns B θ → θ x ≡ val ns θ m → Across (Alike (val ns θ)) w) →
      ((θ : ℕ → Term) → Instance ns B θ → Across (Alike (val ns θ)) w → θ x ≡ val ns θ m) →
      Assigned ns B x m B' answer → Stepped ns B P W w B' P W answer
  step_bound B' x m true there back a =
      let b : Binding = record { variable = record { 0 = x }; node = record { 0 = m } } in
      record {
        goes = λ t. bound_move B' x m (a.puts tt) there back;
        stops = λ f. absurd (true≢false f);
        good = a.good;
        front = λ n h. ap (take n) (a.puts tt) ∙ take-append-le n B (b ∷ []) h;
        longer = omega (arith, ap length (a.puts tt), length-append B (b ∷ []));
        lower = low;
        same_length = refl;
        room = λ r. r;
        less = omega arith;
        tall = omega arith;
      }
  step_bound B' x m false there back a = record {
    goes = λ t. absurd t;
    stops = λ f θ i e. too_small (θ x) (val ns θ m) (back θ i (each_last (Across (Alike (val ns θ))) W w e.0)) ((a.stays refl).1 θ i);
    good = a.good;
    front = λ n h. ap (take n) (a.stays refl).0;
    longer = omega (arith, ap length (a.stays refl).0);
    lower = low;
    same_length = refl;
    room = λ r. r;
    less = omega arith;
    tall = omega arith;
  }

  pub step_left : (B' : List Binding) (x : Variable) (answer : Bool) → Tells (node ns c) (node ns d) (Left x) → Assigned ns B x.0 d B' answer → Stepped ns B P W w B' P W answer
  step_left B' x answer tells a =
      let is : (θ : ℕ → Term) → val ns θ c ≡ θ x.0 = λ θ. val_is ns ordered θ c to-c.within (Var x) tells.0 in
      step_bound B' x.0 d answer (λ θ i q. to-c.same θ i ∙ is θ ∙ q ∙ sym (to-d.same θ i)) (λ θ i q. sym (is θ) ∙ sym (to-c.same θ i) ∙ q ∙ to-d.same θ i) a

  pub step_right : (B' : List Binding) (y : Variable) (answer : Bool) → Tells (node ns c) (node ns d) (Right y) → Assigned ns B y.0 c B' answer → Stepped ns B P W w B' P W answer
  step_right B' y answer tells a =
      let is : (θ : ℕ → Term) → val ns θ d ≡ θ y.0 = λ θ. val_is ns ordered θ d to-d.within (Var y) tells.0 in
      step_bound B' y.0 c answer (λ θ i q. to-c.same θ i ∙ sym q ∙ sym (is θ) ∙ sym (to-d.same θ i)) (λ θ i q. sym (is θ) ∙ sym (to-d.same θ i) ∙ sym q ∙ to-c.same θ i) a

  pub step_known : (P' : List NodeNo) (W' : List Ask) → Known P W c d P' W' → Stepped ns B P W w B P' W' true
  step_known P' W' k = subst (λ (Q : List NodeNo). Stepped ns B P W w B Q W' true) (sym k.table) (subst (λ (V : List Ask). Stepped ns B P W w B P V true) (sym k.work) (record {
    goes = λ t. move_solve ns B B P W w (λ θ i. i)
        (λ θ n i l q. to-c.same θ i ∙ k.near (val ns θ) n l (subst (λ (x : Term). (size x < n) ⊎ (size (val ns θ d) < n)) (to-c.same θ i) (subst (λ (x : Term). (size (val ns θ w.left.0) < n) ⊎ (size x < n)) (to-d.same θ i) q)) ∙ sym (to-d.same θ i))
        (λ θ i e. i);
    stops = λ f. absurd (true≢false f);
    good = good;
    front = λ n h. refl;
    longer = omega arith;
    lower = low;
    same_length = refl;
    room = λ r. r;
    less = omega arith;
    tall = omega arith;
  }))

  -- what two nodes of the same kind say
  parts : (s t : Ask) → Tells (node ns c) (node ns d) (Parts s t) →
      ((θ : ℕ → Term) (n : ℕ) → Across (Near (val ns θ) n) s → Across (Near (val ns θ) n) t → Near (val ns θ) (suc n) c d)
      × ((θ : ℕ → Term) → val ns θ c ≡ val ns θ d → Across (Alike (val ns θ)) s × Across (Alike (val ns θ)) t)
      × (((s.left.0 < c) × (t.left.0 < c)) × ((s.right.0 < d) × (t.right.0 < d)))
  parts s t (inl p) =
      let is_c : (θ : ℕ → Term) → val ns θ c ≡ pair (val ns θ s.left.0) (val ns θ t.left.0) = λ θ. val_is ns ordered θ c to-c.within (Pair s.left t.left) p.0 in
      let is-d : (θ : ℕ → Term) → val ns θ d ≡ pair (val ns θ s.right.0) (val ns θ t.right.0) = λ θ. val_is ns ordered θ d to-d.within (Pair s.right t.right) p.1 in (
        (λ θ n a b. near_pair (val ns θ) n c d s.left.0 t.left.0 s.right.0 t.right.0 (is_c θ) (is-d θ) a b),
        (λ θ e. let q : pair (val ns θ s.left.0) (val ns θ t.left.0) ≡ pair (val ns θ s.right.0) (val ns θ t.right.0) = sym (is_c θ) ∙ e ∙ is-d θ in (cc, cc)),
        (subst (Below c) p.0 (ordered c to-c.within), subst (Below d) p.1 (ordered d to-d.within)),
      )
  parts s t (inr p) =
      let is_c : (θ : ℕ → Term) → val ns θ c ≡ seal (val ns θ s.left.0) (val ns θ t.left.0) = λ θ. val_is ns ordered θ c to-c.within (Seal s.left t.left) p.0 in
      let is-d : (θ : ℕ → Term) → val ns θ d ≡ seal (val ns θ s.right.0) (val ns θ t.right.0) = λ θ. val_is ns ordered θ d to-d.within (Seal s.right t.right) p.1 in (
        (λ θ n a b. near_seal (val ns θ) n c d s.left.0 t.left.0 s.right.0 t.right.0 (is_c θ) (is-d θ) a b),
        (λ θ e. let q : seal (val ns θ s.left.0) (val ns θ t.left.0) ≡ seal (val ns θ s.right.0) (val ns θ t.right.0) = sym (is_c θ) ∙ e ∙ is-d θ in (cc, cc)),
        (subst (Below c) p.0 (ordered c to-c.within), subst (Below d) p.1 (ordered d to-d.within)),
      )

  pub step_united : (s t : Ask) (P' : List NodeNo) (W' : List Ask) → Tells (node ns c) (node ns d) (Parts s t) → United P W c d s t P' W' → Stepped ns B P W w B P' W' true
  step_united s t P' W' tells u =
      let h = parts s t tells in
      let hc = to-c.within in
      let hd = to-d.within in
      let l = u.lower in
      let q = heads_set 0 P u.hi u.lo u.within (omega (arith, u.root)) (omega arith) in
      let fits : Ask → Type 0 = λ w. (w.left.0 < length ns) × (w.right.0 < length ns) in
      subst (λ (Q : List NodeNo). Stepped ns B P W w B Q W' true) (sym u.table) (subst (λ (V : List Ask). Stepped ns B P W w B (set P u.hi u.lo) V true) (sym u.work) (record {
        goes = λ _. move_join ns B P W w s t c d u.hi u.lo u.within u.root to-c.same to-d.same u.path u.edge h.0 h.1;
        stops = λ f. absurd (true≢false f);
        good = good;
        front = λ n h. refl;
        longer = omega arith;
        lower = lower_set P u.hi u.lo u.within u.lower low;
        same_length = length-set P u.hi u.lo;
        room = λ r. each_snoc fits (W ++ (s ∷ [])) t (each_snoc fits W s r (omega (arith, h.2), omega (arith, h.2))) (omega (arith, h.2), omega (arith, h.2));
        less = omega (arith, length-append (W ++ (s ∷ [])) (t ∷ []), length-append W (s ∷ []));
        tall = omega (arith, length-append (W ++ (s ∷ [])) (t ∷ []), length-append W (s ∷ []));
      }))
