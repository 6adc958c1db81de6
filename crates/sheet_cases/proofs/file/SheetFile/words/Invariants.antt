use Rattle.std.proofs.Common.{◌≡◌, ◌++◌, take}
use Rattle.std.specs.List.{flat_map}
use Rattle.records.specs.Bytes.{word}
use Rattle.sheet_cases.specs.Files.{held}
use Rattle.sheet_cases.proofs.file.SheetFile.words.Given as goal

abbrev pub invariant-loop-w : goal.invariant-loop-w
invariant-loop-w l = held l.self ≡ held l.initial.self ++ flat_map word (take l.w-index l.words)
