-- Steps and actions over terms, and what a step binds and uses.
use Rattle.std.specs.Prelude.{◌≡◌, ℕ, ◌<◌, ◌⊎◌, List, [], take, slice_index_or}
use Rattle.std.proofs.Math.Option.{some}
use Rattle.std.proofs.Math.ListN.{get_elem?}
use Rattle.terms.specs.Terms.{Term, name, env, var, pair, seal, Vars}
use Rattle.terms.specs.Nodes.{term}
use Rattle.terms.specs.declared.node.Node.{Node}
use Rattle.protocol.specs.declared.step.Step.{Step}
use Rattle.protocol.specs.declared.step.Step.TheVariants.{Input, Output, Open, Split, Same}
use Rattle.protocol.specs.declared.strand.Strand.{Strand}

-- the steps of a strand, in their order
abbrev pub steps_of : Strand → List Step
steps_of s = take s.len s.steps

-- input: label, variable. output: label, term. opens: subject, the body's variable, key.
-- splits: subject, the variables of the halves. same: two terms.
pub data TermStep : Type 0 where
  input : ℕ → ℕ → TermStep
  output : ℕ → Term → TermStep
  opens : Term → ℕ → Term → TermStep
  splits : Term → ℕ → ℕ → TermStep
  same : Term → Term → TermStep

-- the body or left half of a term, its key or right half, its variable; any other term is its own part
abbrev pub first : Term → Term
first (name n) = name n
first (env n) = env n
first (var x) = var x
first (pair a b) = a
first (seal b k) = b

abbrev pub second : Term → Term
second (name n) = name n
second (env n) = env n
second (var x) = var x
second (pair a b) = b
second (seal b k) = k

abbrev pub variable : Term → ℕ
variable (name n) = 0
variable (env n) = 0
variable (var x) = x
variable (pair a b) = 0
variable (seal b k) = 0

-- what a step over node numbers means
abbrev pub step_of : List Node → Step → TermStep
step_of ns (Input l x) = input l.0 x.0
step_of ns (Output l n) = output l.0 (term ns n.0)
step_of ns (Open s p) = opens (term ns s.0) (variable (first (term ns p.0))) (second (term ns p.0))
step_of ns (Split s p) = splits (term ns s.0) (variable (first (term ns p.0))) (variable (second (term ns p.0)))
step_of ns (Same a b) = same (term ns a.0) (term ns b.0)

-- the step binds the variable
abbrev pub Binds : ℕ → TermStep → Type 0
Binds x (input l y) = x ≡ y
Binds x (output l t) = ⊥
Binds x (opens s y k) = x ≡ y
Binds x (splits s y z) = (x ≡ y) ⊎ (x ≡ z)
Binds x (same s t) = ⊥

-- P holds of every variable of the step that the step does not bind
abbrev pub Uses : (ℕ → Type 0) → TermStep → Type 0
Uses P (input l y) = Unit {0}
Uses P (output l t) = Vars P t
Uses P (opens s y k) = Vars P s × Vars P k
Uses P (splits s y z) = Vars P s
Uses P (same s t) = Vars P s × Vars P t

-- step number i of strand k is p
abbrev pub At : {A : Type 0} → List (List A) → ℕ → ℕ → A → Type 0
At ss k i p = get_elem? (slice_index_or ss k []) i ≡ some p

-- a step before number i of strand k binds the variable
abbrev pub BoundBefore : List Node → List (List Step) → ℕ → ℕ → ℕ → Type 0
BoundBefore ns ss k i x = (m : ℕ) × (p : Step) × (m < i) × At ss k m p × Binds x (step_of ns p)

-- some step of some strand binds the variable
abbrev pub Bound : List Node → List (List Step) → ℕ → Type 0
Bound ns ss x = (k : ℕ) × (i : ℕ) × (p : Step) × At ss k i p × Binds x (step_of ns p)
