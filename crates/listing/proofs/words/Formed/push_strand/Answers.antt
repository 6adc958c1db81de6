use Rattle.std.proofs.Common.{rules, arith, map, string_bytes}
use Rattle.std.proofs.lemmas.Grind.{common_steps}
use Rattle.sheet.specs.Sheets.{content_of}
use Rattle.listing.specs.Lines.{step_line}
use Rattle.listing.proofs.words.Formed.push_strand.Goals as goal

pub returns : goal.returns
returns c =
    let f = step_line (content_of c.args.self.now.sheet.now) (map string_bytes c.args.self.now.forms.now) in
    let h = c.push_lines.ensures f (record { adds = λ was i x r is p. search rules }) in
    grind (arith, common_steps, h)
