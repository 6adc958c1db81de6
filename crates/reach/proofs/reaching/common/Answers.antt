use Rattle.std.proofs.Common.{arith}
use Rattle.terms.specs.Sets.{bits}
use Rattle.reach.proofs.Variables.{member_below}
use Rattle.reach.proofs.reaching.common.Goals as goal

pub returns-clause-small : goal.returns-clause-small
returns-clause-small c x m = member_below (bits c.args.a) (omega arith) x m

pub returns-clause-both : goal.returns-clause-both
returns-clause-both c x =
    let i = c.loop-x.invariant x in
    (i.0, λ m n. let l = member_below (bits c.args.a) (omega arith) x m in i.1 (omega (arith, l, c.loop-x-test.false)) (m, n))
