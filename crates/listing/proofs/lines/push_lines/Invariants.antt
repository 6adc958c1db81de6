use Rattle.std.proofs.Common.{◌≡◌, ◌++◌, take, string_bytes}
use Rattle.listing.specs.Adds.{AddsEach}
use Rattle.listing.specs.Lines.{numbered}
use Rattle.listing.proofs.lines.push_lines.Given as goal

abbrev pub invariant-loop-i : goal.invariant-loop-i
invariant-loop-i g l = (f : _) → AddsEach (goal.F-post g l.line) f → string_bytes l.out ≡ string_bytes l.initial.out ++ numbered f 0 (take l.i l.items)
