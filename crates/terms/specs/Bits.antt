-- Sets of variables as the bits of a number.
use Rattle.std.specs.Prelude.{◌≡◌, ℕ, ◌/◌, ◌%◌, ◌^◌, bit_or}
use Rattle.terms.specs.Terms.{Term, name, env, var, pair, seal}

-- the number's binary digit of weight 2 ^ x is 1: x is in the set
abbrev pub In : ℕ → ℕ → Type 0
In x n = (n / 2 ^ x) % 2 ≡ 1

-- the set of a term's variables
abbrev pub varset : Term → ℕ
varset (name n) = 0
varset (env n) = 0
varset (var x) = 2 ^ x
varset (pair a b) = bit_or (varset a) (varset b)
varset (seal b k) = bit_or (varset b) (varset k)
