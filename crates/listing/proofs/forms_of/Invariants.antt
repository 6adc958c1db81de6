use Rattle.std.proofs.Common.{◌≡◌, map, drop, vec_items, string_bytes}
use Rattle.sheet.specs.Sheets.{content_of}
use Rattle.listing.specs.Lines.{forms_from, forms}
use Rattle.listing.proofs.forms_of.Given as goal

abbrev pub invariant-loop-node : goal.invariant-loop-node
invariant-loop-node l = forms_from (content_of l.sheet).names (content_of l.sheet).variables (map string_bytes (vec_items l.table)) (drop l.node-index l.node-items) ≡ forms (content_of l.sheet)
