use Rattle.std.proofs.Common.{◌≡◌, None, rules}
use Rattle.bench.proofs.Shapely.{halves, is_pair, no_pair}
use Rattle.bench.proofs.shapes.pair_at.Goals as goal

pub returns-in-Pair : goal.returns-in-Pair
returns-in-Pair c = is_pair c.args.pages.now c.args.place.0 c.in_ok-left.field-0 _ _ c.in_ok-left.ensures c.in-Pair.is

pub returns-in-Name : goal.returns-in-Name
returns-in-Name c =
    let none : halves c.in_ok-left.field-0.node ≡ None = search rules in
    no_pair c.args.pages.now c.args.place.0 c.in_ok-left.field-0 c.in_ok-left.ensures none
