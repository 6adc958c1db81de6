-- What a need comes down to.
use Rattle.std.specs.Prelude.{ℕ}
use mathlib.Core.List.{List}
use Rattle.terms.specs.Terms.{Term, name, env, var, pair, seal, Atom}
use Rattle.lifting.specs.Lift.{Analz}

-- the terms that are needed where t is: the halves of a needed pair, and the body of a needed seal whose key is known
pub data Needed (S : List Term) (M : ℕ → Type 0) (t : Term) : Term → Type 0 where
  itself : Needed S M t t
  left : {a b : Term} → Needed S M t (pair a b) → Needed S M t a
  right : {a b : Term} → Needed S M t (pair a b) → Needed S M t b
  by_name : {m : Term} {n : ℕ} → Needed S M t (seal m (name n)) → Analz S (name n) → Needed S M t m
  by_env : {m : Term} {n : ℕ} → Needed S M t (seal m (env n)) → Needed S M t m
  by_mark : {m : Term} {x : ℕ} → Needed S M t (seal m (var x)) → M x → Needed S M t m
  by_need : {m : Term} {x : ℕ} → Needed S M t (seal m (var x)) → Needed S M t (var x) → Needed S M t m

-- no run derives the term: a name that is not reached, or a seal whose key is no atom
abbrev pub Hopeless : List Term → Term → Type 0
Hopeless S (name n) = ¬ Analz S (name n)
Hopeless S (env n) = ⊥
Hopeless S (var x) = ⊥
Hopeless S (pair a b) = ⊥
Hopeless S (seal m u) = ¬ Atom u
