use Rattle.std.proofs.Common.{◌≡◌, vec_items, length, ap, arith}
use Rattle.std.proofs.lemmas.List.{length_push, length-map}
use Rattle.protocol.specs.Strands.{steps_of}
use Rattle.sheet.specs.Sheets.{content_of}
use Rattle.limits.proofs.Limiting.{right_more, all_longest}
use Rattle.limits.proofs.strands.limits.Goals as goal

pub loop-k-preserved : goal.loop-k-preserved
loop-k-preserved c =
    let i = c.loop-k.invariant in
    let e = c.in_ok-push.ensures.items in
    record {
      size = omega (arith, ap length e, length_push (vec_items c.loop-k.numbers) c.in_ok-longest.field-0, i.size);
      right = right_more (content_of c.args.sheet.now) (vec_items c.loop-k.numbers) (vec_items c.push.new.self) c.loop-k.k c.in_ok-longest.field-0 i.size e i.right c.in_ok-longest.ensures;
    }

pub returns : goal.returns
returns c =
    let i = c.loop-k.invariant in
    let all : length (content_of c.args.sheet.now).strands ≡ c.loop-k.k = omega (arith, ap length c.strands-count.ensures, length-map c.strands-count.result.now steps_of, c.loop-k-test.false, c.loop-k.auto.k-end) in
    all_longest (content_of c.args.sheet.now) (vec_items c.loop-k.numbers) c.loop-k.k all i.size i.right
