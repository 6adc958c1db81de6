use Rattle.std.proofs.Common.{◌≡◌, None, rules}
use Rattle.bench.proofs.Shapely.{sealed, is_seal, no_seal}
use Rattle.bench.proofs.shapes.seal_at.Goals as goal

pub returns-in-Seal : goal.returns-in-Seal
returns-in-Seal c = is_seal c.args.pages.now c.args.place.0 c.in_ok-body.field-0 _ _ c.in_ok-body.ensures c.in-Seal.is

pub returns-in-Name : goal.returns-in-Name
returns-in-Name c =
    let none : sealed c.in_ok-body.field-0.node ≡ None = search rules in
    no_seal c.args.pages.now c.args.place.0 c.in_ok-body.field-0 c.in_ok-body.ensures none
