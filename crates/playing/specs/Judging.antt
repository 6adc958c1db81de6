-- How a bench judges an ended run: the later action's term is fitted to the run's terms, and whether the run is broken is so
-- decided.
use Rattle.std.specs.Prelude.{◌≡◌, ℕ, cond, ◌⊎◌, ◌↔◌, List, ◌∷◌, ◌++◌}
use Rattle.std.proofs.Math.Option.{Option, none, some}
use mathlib.Core.List.{Memᴰ}
use Rattle.terms.specs.Terms.{Term, name, env, var, pair, seal, inst, Closed, Message, Occurs}
use Rattle.lifting.specs.Same.{same?}
use Rattle.runs.specs.Protocols.{TermAction, Protocol, EarlierInLater}
use Rattle.runs.specs.Runs.{Values, Means, bind, Broken}

-- no variable has a value
abbrev pub unvalued : Values
unvalued x = none

-- x has that value now, if it had none or the same; its value before is the first argument
abbrev pub give : Option Term → Values → ℕ → Term → Option Values
give none v x M = some (bind v x M)
give (some N) v x M = cond (same? N M) (some v) none

-- the values found go on to the next part
abbrev pub onto : Option Values → (Values → Option Values) → Option Values
onto none f = none
onto (some w) f = f w

-- an open term is fitted to another from left to right: the values, and what its variables get beside
abbrev pub fit : Values → Term → Term → Option Values
fit v (name n) M = cond (same? (name n) M) (some v) none
fit v (env n) M = cond (same? (env n) M) (some v) none
fit v (var x) M = give (v x) v x M
fit v (pair a b) (name n) = none
fit v (pair a b) (env n) = none
fit v (pair a b) (var x) = none
fit v (pair a b) (pair A B) = onto (fit v a A) (λ w. fit w b B)
fit v (pair a b) (seal B K) = none
fit v (seal b k) (name n) = none
fit v (seal b k) (env n) = none
fit v (seal b k) (var x) = none
fit v (seal b k) (pair A B) = none
fit v (seal b k) (seal B K) = onto (fit v b B) (λ w. fit w k K)

-- the values are those of the valuation
abbrev pub Within : Values → (ℕ → Term) → Type 0
Within v ρ = (x : ℕ) (M : Term) → v x ≡ some M → ρ x ≡ M

-- values are found just where some valuation with the values has the other term for the instance
abbrev pub FitFinds : Type 0
FitFinds = (v : Values) (t M : Term) → ((w : Values) × (fit v t M ≡ some w)) ↔ ((ρ : ℕ → Term) × Within v ρ × (inst ρ t ≡ M))

-- what is found has the values, and beside them values of the term's variables, of all of them and of no other
abbrev pub FitAdds : Type 0
FitAdds =
    (v : Values) (t M : Term) (w : Values) →
    fit v t M ≡ some w →
    ((x : ℕ) (N : Term) → v x ≡ some N → w x ≡ some N) × ((x : ℕ) → Occurs x t → (N : Term) × (w x ≡ some N)) × ((x : ℕ) (N : Term) → w x ≡ some N → (v x ≡ some N) ⊎ Occurs x t)

-- each such valuation has what is found, and under what is found the term's value is the other
abbrev pub FitTells : Type 0
FitTells = (v : Values) (t M : Term) (w : Values) → fit v t M ≡ some w → Means w t M × ((ρ : ℕ → Term) → Within v ρ → inst ρ t ≡ M → Within w ρ)

-- the earlier action, where there is one, is not in the run under the values
abbrev pub NoEarlier : Values → Option TermAction → List TermAction → Type 0
NoEarlier w none r = Unit {0}
NoEarlier w (some e) r = (b : TermAction) → Memᴰ b r → b.direction ≡ e.direction → b.label ≡ e.label → ¬ Means w e.term b.term

-- after `before` comes an action that the later one fits, and no earlier one is in `before` under the values found
abbrev pub Judged : Protocol → List TermAction → TermAction → Type 0
Judged S before a = (w : Values) × (a.direction ≡ S.later.direction) × (a.label ≡ S.later.label) × (fit unvalued S.later.term a.term ≡ some w) × NoEarlier w S.earlier before

-- so it is somewhere in the run
abbrev pub JudgedBroken : Protocol → List TermAction → Type 0
JudgedBroken S r = (before : List TermAction) × (a : TermAction) × (after : List TermAction) × (r ≡ before ++ (a ∷ after)) × Judged S before a

-- every term of the run is a closed message
abbrev pub ClosedRun : List TermAction → Type 0
ClosedRun r = (a : TermAction) → Memᴰ a r → Closed a.term × Message a.term

-- a run is broken just where fitting finds it so
abbrev pub JudgedByFitting : Type 0
JudgedByFitting = (S : Protocol) (r : List TermAction) → EarlierInLater S.earlier S.later → ClosedRun r → Broken S r ↔ JudgedBroken S r

-- and so it is decided
abbrev pub VerdictDecided : Type 0
VerdictDecided = (S : Protocol) (r : List TermAction) → EarlierInLater S.earlier S.later → ClosedRun r → Dec (Broken S r)
