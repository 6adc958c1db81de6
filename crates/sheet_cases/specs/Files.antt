-- The bytes of a sheet file in the making.
use Rattle.std.specs.Prelude.{◌≡◌, ℕ, min, List, [], ◌∷◌, ◌++◌, length, vec_items, Result, OnOk}
use Rattle.std.specs.List.{flat_map}
use Rattle.records.specs.Bytes.{word}
use Rattle.sheet_cases.specs.declared.file.SheetFile.{SheetFile}
use Rattle.sheet_cases.specs.declared.entry.Entry as code
use Rattle.sheet_cases.specs.declared.entry.Entry.TheVariants as e

-- a record: the length of its body, as far as two bytes can say it, its kind, its body
abbrev pub record_bytes : ℕ → List ℕ → List ℕ
record_bytes k b = word (min (length b) 65535) ++ (word k ++ b)

-- what an entry is in the file
abbrev pub entry_bytes : code.Entry → List ℕ
entry_bytes (e.Label t) = record_bytes 1 t.now
entry_bytes (e.Name t) = record_bytes 2 t.now
entry_bytes (e.Variable t) = record_bytes 3 t.now
entry_bytes (e.Node k a b) = flat_map word (6 ∷ 4 ∷ k ∷ a ∷ b ∷ [])
entry_bytes e.Strand = flat_map word (0 ∷ 5 ∷ [])
entry_bytes (e.Step k a b) = flat_map word (6 ∷ 6 ∷ k ∷ a ∷ b ∷ [])
entry_bytes (e.Property ws) = flat_map word (12 ∷ 7 ∷ ws)
entry_bytes (e.Record k b) = record_bytes k b.now
entry_bytes (e.Bytes b) = b.now

-- what a file holds so far
abbrev pub held : SheetFile → List ℕ
held f = vec_items f.bytes

-- where memory does not fail, the file holds these bytes more
abbrev pub Wrote : {E : Type 0} → SheetFile → List ℕ → Result (Unit {0}) E → SheetFile → Type 0
Wrote before more r after = OnOk r (held after ≡ held before ++ more)
