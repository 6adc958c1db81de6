use Rattle.std.proofs.Common.{rules, ◌≡◌, ◌+◌, ◌-◌, ◌<◌, arith, length, take, subst}
use Rattle.std.proofs.Common.{ℕ}
use Rattle.std.specs.Io.KnownBytes.{Consumes}
use borrow.Rule.Slice.PartMut.{put_mid}
use Rattle.input.proofs.Filling.{came_more}
use Rattle.input.proofs.read_into.Goals as goal

pub loop-n-preserved : goal.loop-n-preserved
loop-n-preserved g c =
    let b = c.in_ok-got.ensures.bound in
    let n = c.loop-n.n in
    let l : n < length c.loop-n.buf = search rules in
    record {
      fits = search rules;
      came = came_more _ _ _ n (length c.loop-n.buf - n) c.in_ok-got.got c.loop-n.buf c.read.new.buf (omega (arith, l)) (omega (arith, b.0)) c.loop-n.invariant.came c.in_ok-got.ensures.bytes.0;
      long = search rules;
    }

pub returns-then-got-eq0 : goal.returns-then-got-eq0
returns-then-got-eq0 g c =
    let b = c.in_ok-got.ensures.bound in
    let n = c.loop-n.n in
    let e = c.if-got-eq0.true in
    let l : n < length c.loop-n.buf = search rules in
    let m = came_more _ _ _ n (length c.loop-n.buf - n) c.in_ok-got.got c.loop-n.buf c.read.new.buf (omega (arith, l)) (omega (arith, b.0)) c.loop-n.invariant.came c.in_ok-got.ensures.bytes.0 in
    let k : n + c.in_ok-got.got ≡ n = omega (arith, e) in
    record {
      fits = c.loop-n.invariant.fits;
      came = subst (λ (i : ℕ). Consumes (g.R.Read.remaining c.args.input.now) (g.R.Read.remaining c.read.new.self) (take i (put_mid n (length c.loop-n.buf - n) c.loop-n.buf c.read.new.buf))) k m;
      whole = λ h. c.in_ok-got.ensures.bytes.1 e (search rules);
    }
