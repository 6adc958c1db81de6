-- Sets of numbers.
use Rattle.std.specs.Prelude.{◌≡◌, ℕ, ◌-◌, ◌/◌, ◌%◌, ◌^◌, ◌<◌, Bool, true, false, nat_eq, sum_by, slice_index_or}
use Rattle.terms.specs.Sets.{bits}
use Rattle.terms.specs.declared.variables.VarSet.{VarSet}
use Rattle.reach.specs.declared.numbers.Numbers.{Numbers}

-- the row with the digits of 64 numbers
abbrev pub row : Numbers → ℕ → VarSet
row s k = slice_index_or s.rows k (record { 0 = 0 })

-- whether the number is in the set
abbrev pub has : Numbers → ℕ → Bool
has s i = nat_eq ((bits (row s (i / 64)) / 2 ^ (i % 64)) % 2) 1

-- falls with each number more
abbrev pub room : Numbers → ℕ
room s = sum_by (λ v. 2 ^ 64 - bits v) s.rows

-- the set with one number more
pub record Added (s : Numbers) (n : ℕ) (s' : Numbers) : Type 0 where
  pub here : has s' n ≡ true
  pub others : (i : ℕ) → (i ≡ n → ⊥) → has s' i ≡ has s i
  pub less : has s n ≡ false → room s' < room s
