use Rattle.std.proofs.Common.{rules, map, string_bytes}
use Rattle.sheet.specs.Sheets.{content_of}
use Rattle.protocol.specs.Strands.{steps_of}
use Rattle.listing.specs.Lines.{strand_lines}
use Rattle.listing.proofs.Numbering.{on_map}
use Rattle.listing.proofs.words.Formed.push_strands.Goals as goal

pub returns : goal.returns
returns c =
    let f = strand_lines (content_of c.args.self.now.sheet.now) (map string_bytes c.args.self.now.forms.now) in
    on_map _ _ f steps_of c.strands.result.now _ c.push_lines.result c.strands.ensures (c.push_lines.ensures (λ i t. f i (steps_of t)) (record { adds = λ was i x r is p. search rules }))
