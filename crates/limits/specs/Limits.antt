-- What the limits of strands hold.
use Rattle.std.specs.Prelude.{ℕ, slice_index_or, vec_items}
use Rattle.limits.specs.declared.most.Limits.{Limits}

-- how far strand k can go
abbrev pub most_in : Limits → ℕ → ℕ
most_in l k = slice_index_or (vec_items l.numbers) k 0
