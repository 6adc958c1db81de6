-- Which variables steps bind, as tests: a ghost field's fact has at most one proof, and `Bound` names a step that binds.
-- In proofs/Tracking each test is shown to decide `In`, `Binds`, `Bound` or `BoundBefore`.
use Rattle.std.specs.Prelude.{ℕ, ◌-◌, ◌/◌, ◌%◌, ◌^◌, Bool, false, ◌||◌, ◌==◌, List, [], length, slice_index_or}
use Rattle.std.specs.List.{list_any}
use Rattle.terms.specs.declared.node.Node.{Node}
use Rattle.protocol.specs.declared.step.Step.{Step}
use Rattle.protocol.specs.Strands.{TermStep, input, output, opens, splits, same, step_of}

-- x is in the set whose bits are those of n: `In`
abbrev pub in? : ℕ → ℕ → Bool
in? x n = (n / 2 ^ x) % 2 == 1

-- the step binds the variable: `Binds` as a test
abbrev pub binds? : ℕ → TermStep → Bool
binds? x (input l y) = x == y
binds? x (output l t) = false
binds? x (opens s y k) = x == y
binds? x (splits s y z) = (x == y) || (x == z)
binds? x (same s t) = false

-- one of the steps binds the variable
abbrev pub bound_in? : List Node → List Step → ℕ → Bool
bound_in? ns ps x = list_any (λ p. binds? x (step_of ns p)) ps

-- a step of some strand binds it: `Bound`
abbrev pub bound? : List Node → List (List Step) → ℕ → Bool
bound? ns ss x = list_any (λ ps. bound_in? ns ps x) ss

-- a step of the last strand binds it: `BoundBefore` at the end of that strand
abbrev pub bound_last? : List Node → List (List Step) → ℕ → Bool
bound_last? ns ss x = bound_in? ns (slice_index_or ss (length ss - 1) []) x
