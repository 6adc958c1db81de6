use Rattle.std.proofs.Common.{◌≡◌, rules, Some}
use Rattle.std.proofs.lemmas.Result.{err_from_is_err_and}
use Rattle.entries.specs.Format.{step, step_entry}
use Rattle.sheet.specs.View.{content}
use Rattle.sheet.specs.Checking.{Shaped}
use Rattle.sheet.proofs.Stepping.{bound_twice, used_early, may_come}
use Rattle.sheet.proofs.draft.Draft.place.Goals as goal

pub returns-in_err-ensure : goal.returns-in_err-ensure
returns-in_err-ensure c =
    let d = c.args.self.now in
    let f = c.args.f in
    let k : step_entry c.in_ok-step.step ≡ step f.kind f.a f.b = search rules in
    let s : Shaped (content d.tables) c.in_ok-step.step (Some c.in_ok-shape.shape) = search rules in
    let e = c.in_err-ensure.ensures in
    let p = err_from_is_err_and c.from_residual-in_err-ensure.result c.from_residual-in_err-ensure.ensures.1 in
    rw (p.1, p.2, e.0) (bound_twice (content d.tables) _ _ _ _ k c.requires.order c.requires.room _ s _ _ d.bound_is d.here_is _ c.is_disjoint.ensures e.1)

pub returns-in_err-ensure-2 : goal.returns-in_err-ensure-2
returns-in_err-ensure-2 c =
    let d = c.args.self.now in
    let f = c.args.f in
    let k : step_entry c.in_ok-step.step ≡ step f.kind f.a f.b = search rules in
    let s : Shaped (content d.tables) c.in_ok-step.step (Some c.in_ok-shape.shape) = search rules in
    let e = c.in_err-ensure-2.ensures in
    let p = err_from_is_err_and c.from_residual-in_err-ensure-2.result c.from_residual-in_err-ensure-2.ensures.1 in
    rw (p.1, p.2, e.0) (used_early (content d.tables) _ _ _ _ k c.requires.order c.requires.room _ s _ _ d.bound_is d.here_is _ c.is_subset.ensures e.1)

pub returns : goal.returns
returns c =
    let d = c.args.self.now in
    let f = c.args.f in
    let k : step_entry c.in_ok-step.step ≡ step f.kind f.a f.b = search rules in
    let s : Shaped (content d.tables) c.in_ok-step.step (Some c.in_ok-shape.shape) = search rules in
    (may_come (content d.tables) _ _ _ _ k c.requires.order c.requires.room _ s _ _ d.bound_is d.here_is (c.is_disjoint.ensures.0 c.in_ok-ensure.ensures) (c.is_subset.ensures.0 c.in_ok-ensure-2.ensures), k, s.1)
