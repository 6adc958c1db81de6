use Rattle.std.proofs.Common.{◌≡◌, ◌-◌, Ok, arith, rules}
use Rattle.std.proofs.lemmas.Result.{err_from_is_err_and}
use Rattle.records.specs.Reading.{rec_of}
use Rattle.sheet.specs.View.{content}
use Rattle.sheet.specs.Drafting.{Added}
use Rattle.sheet.proofs.Loading.{sofar_more, draft_refused}
use Rattle.sheet.proofs.read.read_tables.Goals as goal

pub loop-draft-preserved : goal.loop-draft-preserved
loop-draft-preserved c =
    let x = rw c.in-Some.is at c.in_ok-found.ensures in
    let a : Added (content c.loop-draft.draft.tables) (rec_of c.in-Some.found) (Ok tt) (content c.add.new.self.tables) = search rules in
    sofar_more _ _ _ _ c.loop-draft.invariant (rec_of c.in-Some.found) _ _ _ a.0 x.0 x.1 a.1 a.2 a.3

pub returns-in_err-map_err : goal.returns-in_err-map_err
returns-in_err-map_err c =
    let x = rw c.in-Some.is at c.in_ok-found.ensures in
    let p = err_from_is_err_and c.from_residual-in_err-map_err.result c.from_residual-in_err-map_err.ensures.1 in
    let place : c.count.result - 1 ≡ c.loop-draft.records.count = omega (arith, x.1) in
    rw (p.1, p.2) (draft_refused _ _ _ _ c.loop-draft.invariant (rec_of c.in-Some.found) _ (c.count.result - 1) c.add.result _ (content c.add.new.self.tables) _ _ x.0 place c.add.ensures c.in_err-map_err.ensures.cases (λ u h. search rules) (λ r h. search rules))
