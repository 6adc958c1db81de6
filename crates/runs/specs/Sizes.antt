-- The two sides of a step's equation, and protocols whose variables are among the first.
use Rattle.std.specs.Prelude.{ℕ, ◌<◌}
use Rattle.terms.specs.Terms.{Term, var, pair, seal, Vars}
use Rattle.protocol.specs.Strands.{TermStep, input, output, opens, splits, same, At}
use Rattle.runs.specs.Protocols.{Protocol}

-- what a step takes: the subject, the left side of a same, the message
abbrev pub one_side : TermStep → Term
one_side (input l x) = var x
one_side (output l n) = n
one_side (opens s x k) = s
one_side (splits s x y) = s
one_side (same n m) = n

-- what it has to equal: the pattern, the right side of a same, the message
abbrev pub other_side : TermStep → Term
other_side (input l x) = var x
other_side (output l n) = n
other_side (opens s x k) = seal (var x) k
other_side (splits s x y) = pair (var x) (var y)
other_side (same n m) = m

-- all variables of the protocol are among the first V
pub record ProtocolSized (V : ℕ) (S : Protocol) : Type 0 where
  pub sides : (k i : ℕ) (q : TermStep) → At S.strands k i q → Vars (λ x. x < V) (one_side q) × Vars (λ x. x < V) (other_side q)
  pub later_small : Vars (λ x. x < V) S.later.term
