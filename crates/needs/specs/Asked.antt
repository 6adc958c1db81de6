-- The nodes that are asked for.
use Rattle.std.specs.Prelude.{◌≡◌, ℕ, ◌<◌, Bool, true, false, sum_by, slice_index_or}
use Rattle.needs.specs.declared.asked.Asked.{Asked}

abbrev pub asked : Asked → ℕ → Bool
asked a i = slice_index_or a.nodes i false

abbrev pub missing : Bool → ℕ
missing true = 0
missing false = 1

-- how many nodes are not asked for
abbrev pub room : Asked → ℕ
room a = sum_by missing a.nodes

-- one node more is asked for
pub record Added (a : Asked) (n : ℕ) (a' : Asked) : Type 0 where
  pub here : asked a' n ≡ true
  pub others : (i : ℕ) → (i ≡ n → ⊥) → asked a' i ≡ asked a i
  pub less : asked a n ≡ false → room a' < room a
