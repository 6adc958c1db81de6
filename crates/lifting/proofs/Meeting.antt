-- The assumptions of lifting hold of a small run.
use mathlib.Core.Path.{◌≡◌, refl}
use mathlib.Core.List.Memᴰ
use mathlib.Core.List.{[], Memᴰ}
use mathlib.Core.Logic.{◌⊎◌, inl, inr}
use Prim.Native.Nat.{ℕ, zero, suc, ◌≤◌}
use native.Mathlib.Omega.{arith}
use lib.ListN.{take}
use Rattle.terms.specs.Terms.{Term, name, env, var, seal}
use Rattle.derivation.specs.Derive.{Derives, listed, public, open_seal}
use Rattle.lifting.specs.Lift.{Analz, by_var, by_env, by_name, known, Marked, Keyed}
use Rattle.lifting.specs.Example.{two_acts, value, MetByTwo, NineSecret}
use Rattle.lifting.proofs.Lifting.{local_name}

-- all that is reached: an invariant over the rules
abbrev Reached : ℕ → Term → Type 0
Reached j t = (t ≡ seal (name 7) (env 0)) ⊎ ((t ≡ name 7) ⊎ ((t ≡ var 0) × (2 ≤ j)))

at_first : (j : ℕ) (t : Term) → Memᴰ t (take j two_acts) → Reached j t
at_first zero t m = absurd (Memᴰ.not-nil m)
at_first (suc zero) t m = elim (Memᴰ.cases_cons m) [ inl e ↦ inl e | inr r ↦ absurd (Memᴰ.not-nil r) ]
at_first (suc (suc j)) t m = elim (Memᴰ.cases_cons m) [ inl e ↦ inl e | inr r ↦ elim (Memᴰ.cases_cons r) [ inl e ↦ inr (inr (e, omega arith)) | inr s ↦ absurd (none j s) ] ]
  where
    none : (j : ℕ) → Memᴰ t (take j []) → ⊥
    none zero s = Memᴰ.not-nil s
    none (suc j) s = Memᴰ.not-nil s

reached : (j : ℕ) {t : Term} → Analz (take j two_acts) t → Reached j t
reached j {t} (Analz.listed m) = at_first j t m
reached j (Analz.left a) = let h = reached j a in absurd (grind arith)
reached j (Analz.right a) = let h = reached j a in absurd (grind arith)
reached j (by_var a) = let h = reached j a in absurd (grind arith)
reached j (by_env {b} {n} a) = let h = reached j a in inr (inl (grind arith))
reached j (by_name a k) = let h = reached j a in absurd (grind arith)

opens : Derives (known two_acts value 1) (name 7)
opens = open_seal {k = env 0} (listed (Memᴰ.head refl)) tt (public 0)

marked : Marked two_acts value
marked j x a = let h = reached j a in let late : 2 ≤ j = grind arith in (1, late, opens)

keyed : Keyed two_acts value
keyed j b x a = let h = reached j a in absurd (grind arith)

pub met_by_two : MetByTwo
met_by_two = (marked, keyed)

pub nine_secret : NineSecret
nine_secret j d = let h = reached j (local_name two_acts value marked j 9 d) in grind arith
