-- What reading into a buffer does.
use Rattle.std.specs.Prelude.{ℕ, ◌<◌, ◌≤◌, List, length, take, Option}
use Rattle.std.specs.Io.KnownBytes.{Consumes, IsAtEnd}

-- n bytes came from what the input had left to the front of the buffer; fewer than there is room for only at the input's end
pub record Filled (left left' : Option (List ℕ)) (buf buf' : List ℕ) (n : ℕ) : Type 0 where
  pub fits : n ≤ length buf
  pub came : Consumes left left' (take n buf')
  pub whole : n < length buf → IsAtEnd left'
