-- The value of a term as a function: what a machine that knows its variables' values works out.
use Rattle.std.proofs.Math.Option.{Option, none, some}
use Rattle.terms.specs.Terms.{Term, name, env, var, pair, seal}
use Rattle.runs.specs.Runs.{Values}

-- two parts put together, where both are there
abbrev pub both : (Term → Term → Term) → Option Term → Option Term → Option Term
both f none q = none
both f (some a) none = none
both f (some a) (some b) = some (f a b)

-- the term's value; none where one of its variables has none
abbrev pub valued : Values → Term → Option Term
valued v (name n) = some (name n)
valued v (env n) = some (env n)
valued v (var x) = v x
valued v (pair a b) = both pair (valued v a) (valued v b)
valued v (seal b k) = both seal (valued v b) (valued v k)
