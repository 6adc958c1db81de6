use Rattle.std.proofs.Common.{rules, refl}
use Rattle.entries.specs.Texts.{bytes_of}
use Rattle.listing.specs.Lines.{text_line}
use Rattle.listing.proofs.Numbering.{on_map}
use Rattle.listing.proofs.lines.push_texts.Goals as goal

pub returns : goal.returns
returns c =
    let f = text_line c.args.word.now in
    on_map _ _ f bytes_of c.args.texts.now _ c.push_lines.result refl (c.push_lines.ensures (λ i t. f i (bytes_of t)) (record { adds = λ was i x r is p. search rules }))
