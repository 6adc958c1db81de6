use Rattle.std.proofs.Common.{true, refl, rules}
use Rattle.sheet.specs.View.{content}
use Rattle.sheet.proofs.Shapes.{earlier_decided, bound_later, free_later}
use Rattle.sheet.proofs.draft.Draft.allows.Goals as goal

pub returns-then-not-is_disjoint : goal.returns-then-not-is_disjoint
returns-then-not-is_disjoint c =
    let d = c.args.self.now in
    bound_later (content d.tables) c.args.p _ _ _ c.in-Some.ensures d.bound_is c.is_disjoint.ensures c.if-not-is_disjoint.true

pub returns-in_default-earlier : goal.returns-in_default-earlier
returns-in_default-earlier c =
    let d = c.args.self.now in
    free_later (content d.tables) c.args.p _ _ _ c.in-Some.ensures d.bound_is c.is_disjoint.ensures true c.if-not-is_disjoint.false (rw c.in_default-earlier.is (λ t. tt, λ u. refl))

pub returns : goal.returns
returns c =
    let d = c.args.self.now in
    free_later (content d.tables) c.args.p _ _ _ c.in-Some.ensures d.bound_is c.is_disjoint.ensures c.is_some_and.result c.if-not-is_disjoint.false
    (rw c.in-Some-earlier.is (earlier_decided (content d.tables) c.in-Some-earlier.action c.args.p.later _ _ _ _ c.action-2.ensures c.in-Some.ensures c.is_some_and.ensures (λ s h. search rules)))
