use Rattle.std.proofs.Common.{rules, refl, string_bytes}
use Rattle.listing.specs.Lines.{form_line}
use Rattle.listing.proofs.Numbering.{on_map}
use Rattle.listing.proofs.lines.push_forms.Goals as goal

pub returns : goal.returns
returns c =
    on_map _ _ form_line string_bytes c.args.forms.now _ c.push_lines.result refl (c.push_lines.ensures (λ i t. form_line i (string_bytes t)) (record { adds = λ was i x r is p. search rules }))
