-- What calls that write at the end of a text say of it.
use Rattle.std.specs.Prelude.{◌≡◌, ℕ, List, ◌++◌, String, string_bytes, Result, OnOk, ⊤}
use Rattle.std.specs.Borrow.{Bor, MutBor}

-- a call under the number i at the element x adds f i x to the text, where it ends well
pub record AddsEach {Z X E : Type 0} (post : MutBor (String Z) → ℕ → Bor X → Result ⊤ E → MutBor (String Z) → Type 0) (f : ℕ → X → List ℕ) : Type 0 where
  pub adds : (was : MutBor (String Z)) (i : ℕ) (x : Bor X) (r : Result ⊤ E) (is : MutBor (String Z)) → post was i x r is → OnOk r (string_bytes is.now ≡ string_bytes was.now ++ f i x.now)
