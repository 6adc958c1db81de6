use Rattle.std.proofs.Common.{◌≡◌, ◌++◌, take}
use Rattle.std.specs.List.{flat_map}
use Rattle.sheet_cases.specs.Files.{entry_bytes, held}
use Rattle.sheet_cases.proofs.file.SheetFile.entries.Given as goal

abbrev pub invariant-loop-e : goal.invariant-loop-e
invariant-loop-e l = held l.self ≡ held l.initial.self ++ flat_map entry_bytes (take l.e-index l.es)
