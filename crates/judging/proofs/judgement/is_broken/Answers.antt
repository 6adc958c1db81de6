use Rattle.std.proofs.Common.{◌≡◌, ⊎_elim, subst, arith}
use Rattle.std.proofs.lemmas.Bool.{cases_lt, iff_false}
use Rattle.pages.specs.Pages.{nodes_on}
use Rattle.sheet.specs.Sheets.{content_of}
use Rattle.judging.proofs.Reading.{law_of}
use Rattle.judging.proofs.Breaking.{BreaksAt, broken_at, broken_nowhere}
use Rattle.judging.proofs.judgement.is_broken.Goals as goal

pub returns-then-breaks : goal.returns-then-breaks
returns-then-breaks c = broken_at (content_of c.args.sheet.now) (law_of c.args.sheet.now) (nodes_on c.args.pages.now) c.args.run.now c.requires.said c.loop-i.i c.loop-i-test.true (c.breaks.ensures.0 c.if-breaks.true)

pub loop-i-preserved : goal.loop-i-preserved
loop-i-preserved c = λ k l j.
    ⊎_elim
    (λ s. c.loop-i.invariant k s j)
    (λ s. let e : k ≡ c.loop-i.i = omega (arith, l) in iff_false c.breaks.ensures c.if-breaks.false (subst (BreaksAt (content_of c.args.sheet.now) (nodes_on c.args.pages.now) c.args.run.now) e j))
    (cases_lt k c.loop-i.i)

pub returns : goal.returns
returns c = broken_nowhere (content_of c.args.sheet.now) (law_of c.args.sheet.now) (nodes_on c.args.pages.now) c.args.run.now c.requires.said (λ k l. c.loop-i.invariant k (omega (arith, l, c.loop-i-test.false)))
