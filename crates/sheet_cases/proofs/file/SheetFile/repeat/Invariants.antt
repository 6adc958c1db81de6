use Rattle.std.proofs.Common.{◌≡◌, ◌++◌, replicate}
use Rattle.std.specs.List.{flat_map}
use Rattle.sheet_cases.specs.Files.{entry_bytes, held}
use Rattle.sheet_cases.proofs.file.SheetFile.repeat.Given as goal

abbrev pub invariant-loop : goal.invariant-loop
invariant-loop l = held l.self ≡ held l.initial.self ++ flat_map entry_bytes (replicate l.counter l.e)
