-- Sets of variables, filled one variable after another.
use Rattle.std.proofs.Common.{ℕ, ◌<◌, ◌^◌, List, pow_mono, arith}
use native.Mathlib.Decide.{dec_lt}
use Rattle.terms.specs.Bits.{In}
use Rattle.terms.proofs.Bitsets.{not_above}
use Rattle.unification.specs.Bindings.{Unbound}
use Rattle.unification.specs.declared.binding.Binding.{Binding}

-- the members below n that P holds of
abbrev Those : (ℕ → Type 0) → ℕ → ℕ → Type 0
Those P n s = (x : ℕ) → (In x s → P x) × (x < n → P x → In x s)

abbrev pub Unbounds : List Binding → ℕ → ℕ → Type 0
Unbounds B n s = Those (Unbound B) n s

abbrev pub Common : ℕ → ℕ → ℕ → ℕ → Type 0
Common a b n s = Those (λ x. In x a × In x b) n s

-- a number of 64 digits has no member from 64 on
pub member_below : (a : ℕ) → a < 2 ^ 64 → (x : ℕ) → In x a → x < 64
member_below a l x m = elim (dec_lt x 64) [ yes i ↦ i | no i ↦ absurd (not_above x a (omega (arith, pow_mono {i = 64} {j = x} (omega arith))) m) ]
