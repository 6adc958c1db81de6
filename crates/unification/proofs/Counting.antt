-- Room that is reserved suffices: there are no more bindings than variables, and no more links than nodes.
use mathlib.Core.Path.{◌≡◌, refl, sym, ap, ◌∙◌, subst}
use mathlib.Core.List.{List, [], ◌∷◌, ◌++◌}
use mathlib.Core.Bool.{Bool, true, false}
use Prim.Native.Nat.{ℕ, zero, suc, ◌+◌, ◌<◌, ◌≤◌}
use native.Mathlib.Nat.{not-suc-le-zero, le_of_suc-le-suc}
use native.Mathlib.Omega.{arith}
use borrow.Author.Tests.{eq-eqb, ne_eqb}
use lib.Dec.{eqb}
use lib.ListN.{length, get_or, set, length-set, length-append}
use Rattle.terms.specs.declared.number.NodeNo.{NodeNo}
use Rattle.unification.specs.Bindings.{Unbound}
use Rattle.unification.specs.Index.{Indexed, Counted}
use Rattle.std.specs.Prelude.{Option, Some, None, is_none, count_by, cond}
use Rattle.std.proofs.lemmas.List.Sums.{sum_by-set}
use Rattle.unification.specs.Classes.{up}
use Rattle.unification.specs.Steps.{bit, heads}
use Rattle.unification.specs.declared.binding.Binding.{Binding}
use Rattle.unification.proofs.Ranking.{variable_new}

abbrev one_if_none : Option ℕ → ℕ
one_if_none o = cond (is_none o) 1 0

-- an unbound variable has no place in the index
unbound_none : (B : List Binding) (I : List (Option ℕ)) (x : ℕ) (o : Option ℕ) → Indexed B I → Unbound B x → get_or I x None ≡ o → o ≡ None
unbound_none B I x None d u e = refl
unbound_none B I x (Some k) d u e = let r = d.1 x k e in absurd (u k r.0 r.1)

-- one place more is one variable less that has none
filled : (B : List Binding) (I : List (Option ℕ)) (x k : ℕ) → Indexed B I → Unbound B x → x < length I → count_by is_none (set I x (Some k)) + 1 ≡ count_by is_none I
filled B I x k d u h =
    let r = sum_by-set one_if_none I x (Some k) None h in
    let e : one_if_none (get_or I x None) ≡ 1 = ap one_if_none (unbound_none B I x (get_or I x None) d u refl) in
    omega arith

pub counted_room : (B : List Binding) (I : List (Option ℕ)) (x : ℕ) → Indexed B I → Counted B I → Unbound B x → x < length I → length B < length I
counted_room B I x d c u h = let r = filled B I x 0 d u h in omega arith

pub counted_put : (B : List Binding) (I : List (Option ℕ)) (b : Binding) (k : ℕ) → Indexed B I → Counted B I → Unbound B b.variable.0 → b.variable.0 < length I → Counted (B ++ (b ∷ [])) (set I b.variable.0 (Some k))
counted_put B I b k d c u h = let r = filled B I b.variable.0 k d u h in omega (arith, length-append B (b ∷ []), length-set I b.variable.0 (Some k))

pub counted_pop : (B B₀ : List Binding) (I : List (Option ℕ)) (b : Binding) → B₀ ≡ B ++ (b ∷ []) → Indexed B₀ I → Counted B₀ I → Counted B (set I b.variable.0 None)
counted_pop B B₀ I b e d c =
    let d' : Indexed (B ++ (b ∷ [])) I = subst (λ (C : List Binding). Indexed C I) e d in
    let here = d'.0 (length B) (omega (arith, length-append B (b ∷ []))) in
    let v = variable_new B b in
    let h : b.variable.0 < length I = omega (arith, here.0, v) in
    let r = sum_by-set one_if_none I b.variable.0 None None h in
    let q : one_if_none (get_or I b.variable.0 None) ≡ 0 = ap (λ (y : ℕ). one_if_none (get_or I y None)) (sym v) ∙ ap one_if_none here.1 in
    omega (arith, ap length e, length-append B (b ∷ []), length-set I b.variable.0 None)

-- a root is counted
pub heads_some : (k : ℕ) (P : List NodeNo) (i : ℕ) → i < length P → up P i ≡ k + i → 1 ≤ heads k P
heads_some k [] i h e = absurd (not-suc-le-zero h)
heads_some k (p ∷ ps) zero h e = let a : bit (eqb p.0 k) ≡ 1 = ap bit (eq-eqb p.0 k (omega arith)) in omega arith
heads_some k (p ∷ ps) (suc i) h e = let r = heads_some (suc k) ps i (le_of_suc-le-suc h) (omega arith) in omega arith

-- a root that is linked is one root less
pub heads_set : (k : ℕ) (P : List NodeNo) (i : ℕ) (lo : NodeNo) → i < length P → up P i ≡ k + i → lo.0 < k + i → heads k (set P i lo) + 1 ≡ heads k P
heads_set k [] i lo h e l = absurd (not-suc-le-zero h)
heads_set k (p ∷ ps) zero lo h e l =
    let a : bit (eqb p.0 k) ≡ 1 = ap bit (eq-eqb p.0 k (omega arith)) in
    let b : bit (eqb lo.0 k) ≡ 0 = ap bit (ne_eqb lo.0 k (λ q. omega arith)) in
    omega arith
heads_set k (p ∷ ps) (suc i) lo h e l =
    let r = heads_set (suc k) ps i lo (le_of_suc-le-suc h) (omega arith) (omega arith) in omega arith

one_or_none : (t : Bool) → bit t ≤ 1
one_or_none true = omega arith
one_or_none false = omega arith

pub heads_le : (k : ℕ) (P : List NodeNo) → heads k P ≤ length P
heads_le k [] = omega arith
heads_le k (p ∷ ps) = let a = heads_le (suc k) ps in let b = one_or_none (eqb p.0 k) in omega arith

-- a node that becomes a root again is at most one root more
pub heads_reset : (k : ℕ) (P : List NodeNo) (i : ℕ) (p : NodeNo) → heads k (set P i p) ≤ heads k P + 1
heads_reset k [] i p = omega arith
heads_reset k (q ∷ ps) zero p = let a = one_or_none (eqb p.0 k) in omega arith
heads_reset k (q ∷ ps) (suc i) p = let a = heads_reset (suc k) ps i p in omega arith
