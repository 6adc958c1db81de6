-- The bytes of a text, and the texts of a table.
use Rattle.std.specs.Prelude.{ℕ, List, [], slice_index_or}
use Rattle.entries.specs.declared.text.Text.{Text}

abbrev pub bytes_of : Text → List ℕ
bytes_of t = t.text.bytes

-- the text with the number i, and nothing where there is none
abbrev pub text : List (List ℕ) → ℕ → List ℕ
text ts i = slice_index_or ts i []
