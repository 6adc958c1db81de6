-- Two classes made one.
use mathlib.Core.Path.{◌≡◌, refl, sym, ap, ◌∙◌, subst}
use mathlib.Core.List.{List, [], ◌∷◌, ◌++◌}
use Prim.Native.Nat.{ℕ, ◌<◌}
use lib.ListN.{length, set}
use Rattle.terms.specs.Terms.{Term}
use Rattle.terms.specs.declared.number.NodeNo.{NodeNo}
use Rattle.unification.specs.Classes.{up, Near, Linked, Known, United}
use Rattle.unification.specs.declared.ask.Ask.{Ask}
use Rattle.unification.proofs.Nearness.{near_sym, near_trans}

-- the way from a node to its root
abbrev pub Way : List NodeNo → ℕ → ℕ → Type 0
Way P c i = (v : ℕ → Term) (n : ℕ) → Linked (Near v n) P → Near v n c i

module _ (P : List NodeNo) (W : List Ask) (c d : ℕ) (s t : Ask) where
  pub known : (i j : ℕ) → Way P c i → Way P d j → i ≡ j → Known P W c d P W
  known i j p q e = record {
    table = refl;
    work = refl;
    near = λ v n l. near_trans v n c i d (p v n l) (near_sym v n d i (subst (λ (k : ℕ). Near v n d k) (sym e) (q v n l)));
  }

  pub united_right : (i : NodeNo) (j : ℕ) (W' W'' : List Ask) → Way P c i.0 → Way P d j → i.0 < j → j < length P → up P j ≡ j → W' ≡ W ++ (s ∷ []) → W'' ≡ W' ++ (t ∷ []) → United P W c d s t (set P j i) W''
  united_right i j W' W'' p q l h r w w' = record {
    hi = j;
    lo = i;
    lower = l;
    within = h;
    root = r;
    table = refl;
    work = w' ∙ ap (λ (V : List Ask). V ++ (t ∷ [])) w;
    path = λ v n k e. near_trans v n c i.0 d (p v n k) (near_trans v n i.0 j d (near_sym v n j i.0 e) (near_sym v n d j (q v n k)));
    edge = λ v n k e. near_trans v n j d i.0 (near_sym v n d j (q v n k)) (near_trans v n d c i.0 (near_sym v n c d e) (p v n k));
  }

  pub united_left : (i : ℕ) (j : NodeNo) (W' W'' : List Ask) → Way P c i → Way P d j.0 → j.0 < i → i < length P → up P i ≡ i → W' ≡ W ++ (s ∷ []) → W'' ≡ W' ++ (t ∷ []) → United P W c d s t (set P i j) W''
  united_left i j W' W'' p q l h r w w' = record {
    hi = i;
    lo = j;
    lower = l;
    within = h;
    root = r;
    table = refl;
    work = w' ∙ ap (λ (V : List Ask). V ++ (t ∷ [])) w;
    path = λ v n k e. near_trans v n c i d (p v n k) (near_trans v n i j.0 d e (near_sym v n d j.0 (q v n k)));
    edge = λ v n k e. near_trans v n i c j.0 (near_sym v n c i (p v n k)) (near_trans v n c d j.0 e (q v n k));
  }

-- one link further
pub way_on : (P : List NodeNo) (c i j : ℕ) → i < length P → up P i ≡ j → Way P c i → Way P c j
way_on P c i j h e w v n l = near_trans v n c i j (w v n l) (subst (λ (k : ℕ). Near v n i k) e (l i h))
