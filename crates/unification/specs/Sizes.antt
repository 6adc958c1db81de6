-- The number of parts of a term.
use Rattle.std.specs.Prelude.{ℕ, suc, ◌+◌}
use Rattle.terms.specs.Terms.{Term, name, env, var, pair, seal}

abbrev pub size : Term → ℕ
size (name n) = 1
size (env n) = 1
size (var x) = 1
size (pair a b) = suc (size a + size b)
size (seal b k) = suc (size b + size k)
