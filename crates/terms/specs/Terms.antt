-- Terms over local names, environment names and variables.
use Rattle.std.specs.Prelude.{◌≡◌, ℕ, ◌⊎◌}

-- a seal has its body first and its key second
pub data Term : Type 0 where
  name : ℕ → Term
  env : ℕ → Term
  var : ℕ → Term
  pair : Term → Term → Term
  seal : Term → Term → Term

-- the instance of a term under a substitution
abbrev pub inst : (ℕ → Term) → Term → Term
inst θ (name n) = name n
inst θ (env n) = env n
inst θ (var x) = θ x
inst θ (pair a b) = pair (inst θ a) (inst θ b)
inst θ (seal b k) = seal (inst θ b) (inst θ k)

-- no variable stands in the term
abbrev pub Closed : Term → Type 0
Closed (name n) = Unit {0}
Closed (env n) = Unit {0}
Closed (var x) = ⊥
Closed (pair a b) = Closed a × Closed b
Closed (seal b k) = Closed b × Closed k

-- a name, local or of the environment
abbrev pub IsName : Term → Type 0
IsName (name n) = Unit {0}
IsName (env n) = Unit {0}
IsName (var x) = ⊥
IsName (pair a b) = ⊥
IsName (seal b k) = ⊥

-- a name or a variable
abbrev pub Atom : Term → Type 0
Atom (name n) = Unit {0}
Atom (env n) = Unit {0}
Atom (var x) = Unit {0}
Atom (pair a b) = ⊥
Atom (seal b k) = ⊥

-- every key in the term is a name or a variable
abbrev pub Message : Term → Type 0
Message (name n) = Unit {0}
Message (env n) = Unit {0}
Message (var x) = Unit {0}
Message (pair a b) = Message a × Message b
Message (seal b k) = Message b × Atom k

-- the variable stands in the term
abbrev pub Occurs : ℕ → Term → Type 0
Occurs x (name n) = ⊥
Occurs x (env n) = ⊥
Occurs x (var y) = x ≡ y
Occurs x (pair a b) = Occurs x a ⊎ Occurs x b
Occurs x (seal b k) = Occurs x b ⊎ Occurs x k

-- P holds of every variable of the term
abbrev pub Vars : (ℕ → Type 0) → Term → Type 0
Vars P (name n) = Unit {0}
Vars P (env n) = Unit {0}
Vars P (var x) = P x
Vars P (pair a b) = Vars P a × Vars P b
Vars P (seal b k) = Vars P b × Vars P k
