-- Sets of variables as bits: what union, intersection and one bit more hold.
use Rattle.std.proofs.Common.{◌≡◌, ℕ, zero, suc, ◌+◌, ◌-◌, ◌/◌, ◌%◌, ◌^◌, ◌<◌, ◌≤◌, min, max, eqb, ltb, ◌⊎◌, Decides, sym, refl, ap, ◌∙◌, inl, inr, ⊎_elim, mod-lt, div-one, arith, pow_pos, pow_mono, pow-add, shr-shr}
use native.Mathlib.Nat.{div-eq_of_lt, div_self, pow-succ'}
use lib.Pow.{shl-shr, pow-lt}
use lib.Bits.{bit_and, bit_or, and_step, or_step, and_shr, or_shr, and_zero_l, and_mask}
use Rattle.std.proofs.lemmas.Bool.{cases_lt, cases_order, eqb-true, eq-eqb, ltb-true}
use Rattle.terms.specs.Terms.{Term, name, env, var, pair, seal, Occurs, Vars}
use Rattle.terms.specs.Bits.{In, varset}

digit : (n : ℕ) → n % 2 < 2
digit n = mod-lt n {m = 2} (omega arith)

odd_or_even : (n : ℕ) → (n % 2 ≡ 1) ⊎ (n % 2 ≡ 0)
odd_or_even n = ⊎_elim (λ h. inr (omega arith)) (λ h. inl (omega (arith, digit n))) (cases_lt (n % 2) 1)

-- a digit of an intersection, of a union
and_digit : (a b : ℕ) → bit_and a b % 2 ≡ min (a % 2) (b % 2)
and_digit a b = let e = and_step a b in let p = digit a in let q = digit b in omega arith

or_digit : (a b : ℕ) → bit_or a b % 2 ≡ max (a % 2) (b % 2)
or_digit a b = let e = or_step a b in let p = digit a in let q = digit b in omega arith

and_at : (x a b : ℕ) → (bit_and a b / 2 ^ x) % 2 ≡ min ((a / 2 ^ x) % 2) ((b / 2 ^ x) % 2)
and_at x a b = ap (λ (n : ℕ). n % 2) (and_shr a b x) ∙ and_digit (a / 2 ^ x) (b / 2 ^ x)

or_at : (x a b : ℕ) → (bit_or a b / 2 ^ x) % 2 ≡ max ((a / 2 ^ x) % 2) ((b / 2 ^ x) % 2)
or_at x a b = ap (λ (n : ℕ). n % 2) (or_shr a b x) ∙ or_digit (a / 2 ^ x) (b / 2 ^ x)

pub in_or : (x a b : ℕ) → In x (bit_or a b) → In x a ⊎ In x b
in_or x a b h =
    let e = or_at x a b in
    ⊎_elim (λ p. inl p) (λ p. inr (omega (arith, digit (b / 2 ^ x)))) (odd_or_even (a / 2 ^ x))

pub or_in : (x a b : ℕ) → In x a ⊎ In x b → In x (bit_or a b)
or_in x a b h =
    let e = or_at x a b in
    let p = digit (a / 2 ^ x) in
    let q = digit (b / 2 ^ x) in
    ⊎_elim (λ i. omega arith) (λ i. omega arith) h

-- nothing is in the empty set, nor above the number's digits
pub not_above : (x n : ℕ) → n < 2 ^ x → In x n → ⊥
not_above x n l h = let e = ap (λ (m : ℕ). m % 2) (div-eq_of_lt l) in omega arith

pub not_in_zero : (x : ℕ) → In x 0 → ⊥
not_in_zero x h = not_above x 0 (pow_pos x) h

-- one digit
even_above : (x d : ℕ) → (2 ^ (suc d + x) / 2 ^ x) % 2 ≡ 0
even_above x d =
    let e : 2 ^ (suc d + x) / 2 ^ x ≡ 2 ^ suc d = ap (λ (n : ℕ). n / 2 ^ x) (pow-add 2 (suc d) x) ∙ shl-shr (2 ^ suc d) x in
    let f = pow-succ' 2 d in
    ap (λ (n : ℕ). n % 2) e ∙ omega (arith, f)

pub in_one : (x v : ℕ) → In x (2 ^ v) → x ≡ v
in_one x v h = ⊎_elim (λ e. e) (λ o. absurd (⊎_elim (λ l. low l) (λ l. not_above x (2 ^ v) (pow-lt l) h) o)) (cases_order x v)
  where
    low : x < v → ⊥
    low l =
        let s : suc (v - x - 1) + x ≡ v = omega arith in
        let e = even_above x (v - x - 1) in
        let g : (2 ^ v / 2 ^ x) % 2 ≡ 0 = rw s at e in
        omega arith

pub one_in : (x v : ℕ) → x ≡ v → In x (2 ^ v)
one_in x v e = rw e (ap (λ (n : ℕ). n % 2) (div_self (pow_pos v)))

-- the digits of a half
in_half : (x n : ℕ) → (n / 2 / 2 ^ x) % 2 ≡ (n / 2 ^ suc x) % 2
in_half x n = let e = shr-shr n 1 x in let s : 1 + x ≡ suc x = omega arith in ap (λ (m : ℕ). m % 2) (rw s at e)

in_first : (n : ℕ) → (n / 2 ^ 0) % 2 ≡ n % 2
in_first n = ap (λ (m : ℕ). m % 2) (div-one n)

half_below : (k a : ℕ) → a < 2 ^ suc k → a / 2 < 2 ^ k
half_below k a l = omega (arith, pow-succ' 2 k)

-- an intersection with a set that has all of it
pub and_full : (k a b : ℕ) → a < 2 ^ k → ((x : ℕ) → In x a → In x b) → bit_and a b ≡ a
and_full zero a b l h = let z : a ≡ 0 = omega arith in rw z (and_zero_l b)
and_full (suc k) a b l h =
    let i : bit_and (a / 2) (b / 2) ≡ a / 2 = and_full k (a / 2) (b / 2) (half_below k a l) (λ x p. in_half x b ∙ h (suc x) (sym (in_half x a) ∙ p)) in
    let m : min (a % 2) (b % 2) ≡ a % 2 = ⊎_elim (λ p. let q = sym (in_first b) ∙ h 0 (in_first a ∙ p) in omega arith) (λ p. omega arith) (odd_or_even a) in
    and_step a b ∙ omega (arith, i, m)

pub and_none : (k a b : ℕ) → a < 2 ^ k → ((x : ℕ) → In x a → In x b → ⊥) → bit_and a b ≡ 0
and_none zero a b l h = let z : a ≡ 0 = omega arith in rw z (and_zero_l b)
and_none (suc k) a b l h =
    let i : bit_and (a / 2) (b / 2) ≡ 0 = and_none k (a / 2) (b / 2) (half_below k a l) (λ x p q. h (suc x) (sym (in_half x a) ∙ p) (sym (in_half x b) ∙ q)) in
    let m : min (a % 2) (b % 2) ≡ 0 = ⊎_elim (λ p. ⊎_elim (λ q. absurd (h 0 (in_first a ∙ p) (in_first b ∙ q))) (λ q. omega arith) (odd_or_even b)) (λ p. omega arith) (odd_or_even a) in
    and_step a b ∙ omega (arith, i, m)

pub subset_decided : (a b : ℕ) → a < 2 ^ 64 → Decides (eqb (bit_and a b) a) ((x : ℕ) → In x a → In x b)
subset_decided a b l = (
  λ t x p. let e = eqb-true (bit_and a b) a t in
      let f : min ((a / 2 ^ x) % 2) ((b / 2 ^ x) % 2) ≡ (a / 2 ^ x) % 2 = sym (and_at x a b) ∙ ap (λ (n : ℕ). (n / 2 ^ x) % 2) e in
      omega (arith, digit (b / 2 ^ x)),
  λ h. eq-eqb _ _ (and_full 64 a b l h),
)

pub disjoint_decided : (a b : ℕ) → a < 2 ^ 64 → Decides (eqb (bit_and a b) 0) ((x : ℕ) → In x a → In x b → ⊥)
disjoint_decided a b l = (
  λ t x p q. let e = eqb-true (bit_and a b) 0 t in
      let f : min ((a / 2 ^ x) % 2) ((b / 2 ^ x) % 2) ≡ (0 / 2 ^ x) % 2 = sym (and_at x a b) ∙ ap (λ (n : ℕ). (n / 2 ^ x) % 2) e in
      not_in_zero x (sym f ∙ omega arith),
  λ h. eq-eqb _ _ (and_none 64 a b l h),
)

and_one : (n : ℕ) → bit_and n 1 ≡ n % 2
and_one n = and_mask n 1

pub digit_decided : (x n : ℕ) → Decides (eqb (bit_and (n / 2 ^ x) 1) 1) (In x n)
digit_decided x n = (λ t. sym (and_one (n / 2 ^ x)) ∙ eqb-true _ _ t, λ h. eq-eqb _ _ (and_one (n / 2 ^ x) ∙ h))

pub wide_decided : (x n : ℕ) → n < 2 ^ 64 → 64 ≤ x → Decides (ltb x 64) (In x n)
wide_decided x n l h =
    (λ t. absurd (omega (arith, ltb-true x 64 t)), λ i. absurd (not_above x n (omega (arith, pow_mono {i = 64} {j = x} h)) i))

-- one variable more
pub with_one : (v n m : ℕ) → v < 64 → m ≡ 2 ^ v → (x : ℕ) → (In x (bit_or n m) → In x n ⊎ ((x ≡ v) × (x < 64))) × (In x n ⊎ ((x ≡ v) × (x < 64)) → In x (bit_or n m))
with_one v n m l e x = (
  λ i. ⊎_elim (λ p. inl p) (λ p. let q = in_one x v (rw e at p) in inr (q, omega arith)) (in_or x n m i),
  λ s. or_in x n m (⊎_elim (λ p. inl p) (λ p. inr (rw e (one_in x v p.0))) s),
)

-- the set of a term's variables has just those
pub in_varset : (x : ℕ) (t : Term) → In x (varset t) → Occurs x t
in_varset x (name n) h = not_in_zero x h
in_varset x (env n) h = not_in_zero x h
in_varset x (var y) h = in_one x y h
in_varset x (pair a b) h = ⊎_elim (λ p. inl (in_varset x a p)) (λ p. inr (in_varset x b p)) (in_or x (varset a) (varset b) h)
in_varset x (seal a b) h = ⊎_elim (λ p. inl (in_varset x a p)) (λ p. inr (in_varset x b p)) (in_or x (varset a) (varset b) h)

pub varset_in : (x : ℕ) (t : Term) → Occurs x t → In x (varset t)
varset_in x (name n) h = absurd h
varset_in x (env n) h = absurd h
varset_in x (var y) h = one_in x y h
varset_in x (pair a b) h = or_in x (varset a) (varset b) (⊎_elim (λ p. inl (varset_in x a p)) (λ p. inr (varset_in x b p)) h)
varset_in x (seal a b) h = or_in x (varset a) (varset b) (⊎_elim (λ p. inl (varset_in x a p)) (λ p. inr (varset_in x b p)) h)

-- what holds of each variable that occurs holds of every variable, and the other way round
pub vars_from : (P : ℕ → Type 0) (t : Term) → ((x : ℕ) → Occurs x t → P x) → Vars P t
vars_from P (name n) h = tt
vars_from P (env n) h = tt
vars_from P (var x) h = h x refl
vars_from P (pair a b) h = (vars_from P a (λ x o. h x (inl o)), vars_from P b (λ x o. h x (inr o)))
vars_from P (seal a b) h = (vars_from P a (λ x o. h x (inl o)), vars_from P b (λ x o. h x (inr o)))

pub vars_at : (P : ℕ → Type 0) (t : Term) → Vars P t → (x : ℕ) → Occurs x t → P x
vars_at P (name n) v x o = absurd o
vars_at P (env n) v x o = absurd o
vars_at P (var y) v x o = rw o v
vars_at P (pair a b) v x o = ⊎_elim (λ p. vars_at P a v.0 x p) (λ p. vars_at P b v.1 x p) o
vars_at P (seal a b) v x o = ⊎_elim (λ p. vars_at P a v.0 x p) (λ p. vars_at P b v.1 x p) o
