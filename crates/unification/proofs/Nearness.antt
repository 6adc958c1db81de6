-- The laws of nearness: an equivalence at each number of parts.
use mathlib.Core.Path.{◌≡◌, sym, ap, ap₂, ◌∙◌, subst}
use mathlib.Core.Logic.{inl, inr}
use Prim.Native.Nat.{ℕ, zero, suc, ◌+◌, ◌<◌}
use native.Mathlib.Nat.{not-suc-le-zero}
use native.Mathlib.Omega.{arith}
use Rattle.terms.specs.Terms.{Term, pair, seal}
use Rattle.unification.specs.Sizes.{size}
use Rattle.unification.specs.Classes.{Near}

pub near_eq : (v : ℕ → Term) (n a b : ℕ) → v a ≡ v b → Near v n a b
near_eq v n a b e h = e

pub near_sym : (v : ℕ → Term) (n a b : ℕ) → Near v n a b → Near v n b a
near_sym v n a b p (inl h) = sym (p (inr h))
near_sym v n a b p (inr h) = sym (p (inl h))

pub near_trans : (v : ℕ → Term) (n a b c : ℕ) → Near v n a b → Near v n b c → Near v n a c
near_trans v n a b c p q (inl h) = p (inl h) ∙ q (inl (subst (λ (t : Term). size t < n) (p (inl h)) h))
near_trans v n a b c p q (inr h) = p (inr (subst (λ (t : Term). size t < n) (sym (q (inr h))) h)) ∙ q (inr h)

pub near_zero : (v : ℕ → Term) (a b : ℕ) → Near v zero a b
near_zero v a b (inl h) = absurd (not-suc-le-zero h)
near_zero v a b (inr h) = absurd (not-suc-le-zero h)

pub near_all : (v : ℕ → Term) (a b : ℕ) → ((n : ℕ) → Near v n a b) → v a ≡ v b
near_all v a b p = p (suc (size (v a))) (inl (omega arith))

pub near_pair : (v : ℕ → Term) (n a b l r l' r' : ℕ) → v a ≡ pair (v l) (v r) → v b ≡ pair (v l') (v r') → Near v n l l' → Near v n r r' → Near v (suc n) a b
near_pair v n a b l r l' r' e f p q (inl h) =
    let s : size (v a) ≡ suc (size (v l) + size (v r)) = ap size e in
    e ∙ ap₂ pair (p (inl (omega arith))) (q (inl (omega arith))) ∙ sym f
near_pair v n a b l r l' r' e f p q (inr h) =
    let s : size (v b) ≡ suc (size (v l') + size (v r')) = ap size f in
    e ∙ ap₂ pair (p (inr (omega arith))) (q (inr (omega arith))) ∙ sym f

pub near_seal : (v : ℕ → Term) (n a b l r l' r' : ℕ) → v a ≡ seal (v l) (v r) → v b ≡ seal (v l') (v r') → Near v n l l' → Near v n r r' → Near v (suc n) a b
near_seal v n a b l r l' r' e f p q (inl h) =
    let s : size (v a) ≡ suc (size (v l) + size (v r)) = ap size e in
    e ∙ ap₂ seal (p (inl (omega arith))) (q (inl (omega arith))) ∙ sym f
near_seal v n a b l r l' r' e f p q (inr h) =
    let s : size (v b) ≡ suc (size (v l') + size (v r')) = ap size f in
    e ∙ ap₂ seal (p (inr (omega arith))) (q (inr (omega arith))) ∙ sym f
