use Rattle.std.proofs.Common.{Err, rules}
use Rattle.std.proofs.lemmas.Result.{err_from_is_err_and}
use Rattle.protocol.specs.Strands.{step_of}
use Rattle.playing.specs.Calls.{IsInput}
use Rattle.bench.specs.Tables.{sheet_in, situation}
use Rattle.bench.specs.Steps.{NextStep}
use Rattle.bench.proofs.Places.{sound_of}
use Rattle.bench.proofs.Following.{input_refused, input_next, other_next}
use Rattle.bench.proofs.tables.Tables.input.Goals as goal

pub returns-in_err-label : goal.returns-in_err-label
returns-in_err-label c =
    let t = c.args.self.now in
    let p = err_from_is_err_and c.from_residual.result c.from_residual.ensures.1 in
    let e : NextStep (sheet_in t) (situation t) c.args.strand.0 (Err c.in_err-label.field-0.0) = search rules in
    rw (p.1, p.2) (input_refused (sheet_in t) (situation t) c.args.strand.0 c.in_err-label.field-0.0 e)

pub returns-in-Input : goal.returns-in-Input
returns-in-Input c =
    let t = c.args.self.now in
    input_next (sheet_in t) (sound_of t.sheet) (situation t) c.args.strand.0 c.in_ok-label.field-0 c.in-Input.label c.in-Input.variable c.in-Input.is c.in_ok-label.ensures

pub returns-in-Output : goal.returns-in-Output
returns-in-Output c =
    let t = c.args.self.now in
    let none : ¬ IsInput (step_of (sheet_in t).nodes c.in_ok-label.field-0) = search rules in
    other_next (sheet_in t) (situation t) c.args.strand.0 c.in_ok-label.field-0 none c.in_ok-label.ensures
