use Rattle.std.proofs.Common.{◌≡◌, arith, ◌∙◌, sym}
use Rattle.std.proofs.lemmas.Grind.{common_steps}
use Rattle.entries.proofs.Texts.{bytes_printable, printable_bytes, utf8, kept}
use Rattle.entries.proofs.text.Text.new.Goals as goal

pub returns-then-is_empty : goal.returns-then-is_empty
returns-then-is_empty c t = grind (arith, common_steps, bytes_printable _ t.2, t.0)

pub from_utf8_unchecked-text-requires : goal.from_utf8_unchecked-text-requires
from_utf8_unchecked-text-requires c = utf8 _ (sym c.printable.ensures ∙ c.if-not-printable.false)

pub returns : goal.returns
returns c =
    let p = printable_bytes c.args.bytes.now (sym c.printable.ensures ∙ c.if-not-printable.false) in
    let e = c.from_utf8_unchecked-text.ensures in
    let f = kept (λ t. t.bytes ≡ c.from_utf8_unchecked-text.result.now) c.from.result c.in_ok-text.text c.in_ok-text.ensures.value c.from.ensures.ok in
    let l = c.from.ensures.variant.0 (sym c.in_ok-text.ensures.variant) in
    ((grind (arith, common_steps), omega (arith, rw e at l), p), f ∙ e)
