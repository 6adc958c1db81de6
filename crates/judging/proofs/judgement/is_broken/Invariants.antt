use Rattle.std.proofs.Common.{ℕ, ◌<◌}
use Rattle.pages.specs.Pages.{nodes_on}
use Rattle.sheet.specs.Sheets.{content_of}
use Rattle.judging.proofs.Breaking.{BreaksAt}
use Rattle.judging.proofs.judgement.is_broken.Given as goal

abbrev pub invariant-loop-i : goal.invariant-loop-i
invariant-loop-i l = (k : ℕ) → k < l.i → ¬ BreaksAt (content_of l.sheet) (nodes_on l.pages) l.run k
