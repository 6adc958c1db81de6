-- Records as bytes.
use Rattle.std.specs.Prelude.{◌≡◌, ℕ, ◌/◌, ◌%◌, List, [], ◌∷◌, ◌++◌, length}
use Rattle.std.specs.List.{flat_map}

-- a record: its kind and its body
pub record Rec : Type 0 where
  pub kind : ℕ
  pub body : List ℕ

-- a number as two bytes, the low one first
abbrev pub word : ℕ → List ℕ
word n = n % 256 ∷ n / 256 ∷ []

-- a record as bytes: the length of its body, its kind, its body
abbrev pub encode : Rec → List ℕ
encode r = word (length r.body) ++ (word r.kind ++ r.body)

-- records as bytes, one after the other
abbrev pub encode_all : List Rec → List ℕ
encode_all rs = flat_map encode rs

-- no whole record stands at the front
abbrev pub Recordless : List ℕ → Type 0
Recordless bs = (r : Rec) (more : List ℕ) → ¬ (bs ≡ encode r ++ more)

-- there are bytes, and no whole record stands at their front
abbrev pub CutOff : List ℕ → Type 0
CutOff bs = ¬ (bs ≡ []) × Recordless bs
