-- The test of terms says what equality says.
use mathlib.Core.Path.{◌≡◌, ap, ap₂, subst}
use mathlib.Core.Bool.{Bool, true, false, ◌&&◌}
use lib.Dec.{T, eqb→eq, eqb_refl}
use Rattle.terms.specs.Terms.{Term, name, env, var, pair, seal}
use Rattle.lifting.specs.Same.{same?}

and_left : (a b : Bool) → T (a && b) → T a
and_left true b h = tt
and_left false b h = h

and_right : (a b : Bool) → T (a && b) → T b
and_right true b h = h
and_right false b h = absurd h

and_both : (a b : Bool) → T a → T b → T (a && b)
and_both true b h k = k
and_both false b h k = h

pub same→eq : (s t : Term) → T (same? s t) → s ≡ t
same→eq (name n) (name m) h = ap name (eqb→eq n m h)
same→eq (name n) (env m) h = absurd h
same→eq (name n) (var m) h = absurd h
same→eq (name n) (pair c d) h = absurd h
same→eq (name n) (seal c d) h = absurd h
same→eq (env n) (name m) h = absurd h
same→eq (env n) (env m) h = ap env (eqb→eq n m h)
same→eq (env n) (var m) h = absurd h
same→eq (env n) (pair c d) h = absurd h
same→eq (env n) (seal c d) h = absurd h
same→eq (var n) (name m) h = absurd h
same→eq (var n) (env m) h = absurd h
same→eq (var n) (var m) h = ap var (eqb→eq n m h)
same→eq (var n) (pair c d) h = absurd h
same→eq (var n) (seal c d) h = absurd h
same→eq (pair a b) (name m) h = absurd h
same→eq (pair a b) (env m) h = absurd h
same→eq (pair a b) (var m) h = absurd h
same→eq (pair a b) (pair c d) h = ap₂ pair (same→eq a c (and_left (same? a c) (same? b d) h)) (same→eq b d (and_right (same? a c) (same? b d) h))
same→eq (pair a b) (seal c d) h = absurd h
same→eq (seal a b) (name m) h = absurd h
same→eq (seal a b) (env m) h = absurd h
same→eq (seal a b) (var m) h = absurd h
same→eq (seal a b) (pair c d) h = absurd h
same→eq (seal a b) (seal c d) h = ap₂ seal (same→eq a c (and_left (same? a c) (same? b d) h)) (same→eq b d (and_right (same? a c) (same? b d) h))

same_self : (t : Term) → T (same? t t)
same_self (name n) = eqb_refl n
same_self (env n) = eqb_refl n
same_self (var n) = eqb_refl n
same_self (pair a b) = and_both (same? a a) (same? b b) (same_self a) (same_self b)
same_self (seal a b) = and_both (same? a a) (same? b b) (same_self a) (same_self b)

pub eq→same : (s t : Term) → s ≡ t → T (same? s t)
eq→same s t e = subst (λ (u : Term). T (same? s u)) e (same_self s)
