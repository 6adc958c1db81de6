use Rattle.std.proofs.Common.{◌∙◌, Option, Ok, Err, ap, subst, length}
use Rattle.std.proofs.lemmas.Result.{err_from_is_err_and}
use Rattle.playing.specs.Calls.{Situation}
use Rattle.playing.specs.Verdicts.{VerdictOf}
use Rattle.replays.specs.Decoding.{line_of}
use Rattle.replays.specs.declared.line.Line.{Line}
use Rattle.bench.specs.Benches.{sheet_of, protocol_of, situation_of}
use Rattle.playback.proofs.Followed.{sofar_fault, sofar_stopped, sofar_more, sofar_end, next_is, count_more, read_more, followed_on}
use Rattle.playback.proofs.replaying.run_through.Goals as goal

pub returns-in_err-line-clause-played : goal.returns-in_err-line-clause-played
returns-in_err-line-clause-played g c =
    let b = c.args.bench in
    let i = c.loop-bench.invariant in
    let p = err_from_is_err_and c.from_residual.result c.from_residual.ensures.1 in
    let x = next_is c.loop-bench.reader c.next.new.self _ _ c.in_err-line.was c.next.ensures in
    rw (p.1, p.2) (sofar_fault (length (sheet_of b).names) (protocol_of b) c.args.bytes.now _ _ _ _ _ _ _ _ (situation_of c.loop-bench.bench) _ i.2 i.3 x)

pub returns-in-Err-clause-played : goal.returns-in-Err-clause-played
returns-in-Err-clause-played g c =
    let b = c.args.bench in
    let i = c.loop-bench.invariant in
    let x = next_is c.loop-bench.reader c.next.new.self _ _ (c.in_ok-line.was ∙ ap (λ (o : Option Line). Ok o) c.in-Some.is) c.next.ensures in
    let f = followed_on (sheet_of b) (sheet_of c.loop-bench.bench) (line_of c.in-Some.line) (situation_of c.loop-bench.bench) (situation_of c.follow.new.bench) (Err c.in-Err.fault) i.0 (rw c.in-Err.is at c.follow.ensures.followed) in
    sofar_stopped (length (sheet_of b).names) (protocol_of b) c.args.bytes.now _ _ _ _ _ _ _ _ c.loop-bench.record (situation_of c.loop-bench.bench) (situation_of c.follow.new.bench) c.in-Some.line c.in-Err.fault i.1 i.3 x f

pub loop-bench-preserved : goal.loop-bench-preserved
loop-bench-preserved g c =
    let b = c.args.bench in
    let i = c.loop-bench.invariant in
    let x = next_is c.loop-bench.reader c.next.new.self _ _ (c.in_ok-line.was ∙ ap (λ (o : Option Line). Ok o) c.in-Some.is) c.next.ensures in
    let f = followed_on (sheet_of b) (sheet_of c.loop-bench.bench) (line_of c.in-Some.line) (situation_of c.loop-bench.bench) (situation_of c.follow.new.bench) (Ok tt) i.0 (rw c.in_default-follow.is at c.follow.ensures.followed) in
    (c.follow.ensures.sheet ∙ i.0, count_more _ _ _ _ _ _ _ _ _ c.in-Some.line i.1 x, read_more _ _ _ _ _ _ _ _ c.in-Some.line i.2 x, sofar_more (length (sheet_of b).names) (protocol_of b) c.args.bytes.now _ _ _ _ _ _ _ _ (situation_of c.loop-bench.bench) (situation_of c.follow.new.bench) c.in-Some.line i.3 x f)

pub returns-clause-played : goal.returns-clause-played
returns-clause-played g c =
    let b = c.args.bench in
    let i = c.loop-bench.invariant in
    let x = next_is c.loop-bench.reader c.next.new.self _ _ (c.in_ok-line.was ∙ ap (λ (o : Option Line). Ok o) c.in_default.is) c.next.ensures in
    λ v d. sofar_end (length (sheet_of b).names) (protocol_of b) c.args.bytes.now _ _ _ _ _ _ _ _ (situation_of c.loop-bench.bench) v i.3 x (subst (λ (u : Situation). VerdictOf (protocol_of b) u.state.run v) c.end.ensures.situation d)
