-- Sets as numbers: a set within another is no larger a number, and sets with the same members are one number.
use Rattle.std.proofs.Common.{◌≡◌, ℕ, zero, suc, ◌^◌, ◌<◌, ◌≤◌, arith}
use Rattle.std.proofs.lemmas.Nat.{and_le_r}
use native.Mathlib.Nat.{pow-succ'}
use Rattle.terms.specs.Bits.{In}
use Rattle.terms.proofs.Bitsets.{and_full}

below_power : (n : ℕ) → n < 2 ^ n
below_power zero = omega arith
below_power (suc n) = omega (arith, below_power n, pow-succ' 2 n)

pub subset_le : (a b : ℕ) → ((x : ℕ) → In x a → In x b) → a ≤ b
subset_le a b h = omega (arith, and_full a a b (below_power a) h, and_le_r a b)

pub same_set : (a b : ℕ) → ((x : ℕ) → In x a → In x b) → ((x : ℕ) → In x b → In x a) → a ≡ b
same_set a b f g = omega (arith, subset_le a b f, subset_le b a g)
