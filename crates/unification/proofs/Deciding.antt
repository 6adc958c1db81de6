-- Decisions over bindings and sets of variables.
use mathlib.Core.Path.{◌≡◌, refl, subst}
use mathlib.Core.List.{List}
use Prim.Native.Nat.{ℕ, zero, suc, ◌+◌, ◌/◌, ◌%◌, ◌^◌, ◌<◌, ◌≤◌}
use native.Mathlib.Nat.{not-suc-le-zero}
use native.Mathlib.Decide.{ℕ_discrete, dec_lt}
use native.Mathlib.Omega.{arith}
use lib.ListN.{length}
use Rattle.terms.specs.Bits.{In}
use Rattle.unification.specs.Bindings.{variable_at}
use Rattle.unification.specs.declared.binding.Binding.{Binding}

-- whether some number below n has P
pub some? : (P : ℕ → Type 0) → ((k : ℕ) → Dec (P k)) → (n : ℕ) → Dec ((k : ℕ) × (k < n) × P k)
some? P d zero = no (λ p. not-suc-le-zero p.1)
some? P d (suc n) = step (d n) (some? P d n)
  where
    step : Dec (P n) → Dec ((k : ℕ) × (k < n) × P k) → Dec ((k : ℕ) × (k < suc n) × P k)
    step (yes p) r = yes (n, omega arith, p)
    step (no q) (yes r) = yes (r.0, omega arith, r.2)
    step (no q) (no r) = no (λ s. elim (dec_lt s.0 n) [ yes h ↦ r (s.0, h, s.2) | no h ↦ q (subst P (omega arith) s.2) ])

-- the place of a variable's binding
abbrev pub Place : List Binding → ℕ → Type 0
Place B x = (k : ℕ) × (k < length B) × (variable_at B k ≡ x)

pub bound? : (B : List Binding) (x : ℕ) → Dec (Place B x)
bound? B x = some? (λ k. variable_at B k ≡ x) (λ k. ℕ_discrete (variable_at B k) x) (length B)

pub in? : (y s : ℕ) → Dec (In y s)
in? y s = ℕ_discrete ((s / 2 ^ y) % 2) 1

abbrev pub choose : {A : Type 0} → Dec A → ℕ → ℕ → ℕ
choose (yes a) m n = m
choose (no f) m n = n

pub choose_yes : {A : Type 0} (d : Dec A) (m n : ℕ) → A → choose d m n ≡ m
choose_yes (yes a) m n p = refl
choose_yes (no f) m n p = absurd (f p)

pub choose_no : {A : Type 0} (d : Dec A) (m n : ℕ) → (A → ⊥) → choose d m n ≡ n
choose_no (yes a) m n f = absurd (f a)
choose_no (no g) m n f = refl

pub choose_le : {A : Type 0} (d : Dec A) (m k : ℕ) → choose d m (m + k) ≤ m + k
choose_le (yes a) m k = omega arith
choose_le (no g) m k = omega arith
