use Rattle.std.proofs.Common.{◌≡◌, ◌*◌, length, take}
use Rattle.std.specs.List.{flat_map}
use Rattle.std.specs.Simd.{first_chunks}
use Rattle.records.specs.Bytes.{word}
use Rattle.records.proofs.body.words.Given as goal

abbrev pub invariant-loop-i : goal.invariant-loop-i
invariant-loop-i g l = (length l.ws ≡ g.row.N) × (length l.body ≡ 2 * g.row.N) × (l.pairs ≡ first_chunks 2 g.row.N l.body) × (flat_map word (take l.i l.ws) ≡ take (2 * l.i) l.body)
