-- Whether two terms are the same, as a test.
use Rattle.std.specs.Prelude.{Bool, false, ◌&&◌, ◌≡◌, T, eqb}
use Rattle.terms.specs.Terms.{Term, name, env, var, pair, seal}

-- one tree
abbrev pub same? : Term → Term → Bool
same? (name n) (name m) = eqb n m
same? (name n) (env m) = false
same? (name n) (var m) = false
same? (name n) (pair c d) = false
same? (name n) (seal c d) = false
same? (env n) (name m) = false
same? (env n) (env m) = eqb n m
same? (env n) (var m) = false
same? (env n) (pair c d) = false
same? (env n) (seal c d) = false
same? (var n) (name m) = false
same? (var n) (env m) = false
same? (var n) (var m) = eqb n m
same? (var n) (pair c d) = false
same? (var n) (seal c d) = false
same? (pair a b) (name m) = false
same? (pair a b) (env m) = false
same? (pair a b) (var m) = false
same? (pair a b) (pair c d) = same? a c && same? b d
same? (pair a b) (seal c d) = false
same? (seal a b) (name m) = false
same? (seal a b) (env m) = false
same? (seal a b) (var m) = false
same? (seal a b) (pair c d) = false
same? (seal a b) (seal c d) = same? a c && same? b d

-- terms that the test takes for one are one
abbrev pub SameSound : Type 0
SameSound = (s t : Term) → T (same? s t) → s ≡ t

-- and one term is taken for one
abbrev pub SameComplete : Type 0
SameComplete = (s t : Term) → s ≡ t → T (same? s t)
