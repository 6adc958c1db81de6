use Rattle.std.proofs.Common.{◌≡◌, length, vec_items}
use Rattle.sheet.specs.Sheets.{content_of}
use Rattle.limits.proofs.Limiting.{FirstRight}
use Rattle.limits.proofs.strands.limits.Given as goal

abbrev pub invariant-loop-k : goal.invariant-loop-k
invariant-loop-k l = record { size : length (vec_items l.numbers) ≡ l.k; right : FirstRight (content_of l.sheet) (vec_items l.numbers) l.k }
