-- The records of a run file.
use Rattle.std.specs.Prelude.{◌≡◌, ℕ, suc, ◌<◌, ◌++◌}
use Rattle.records.specs.Bytes.{Rec, word}

-- a node with kind, a and b; a step with strand and place
pub data Line : Type 0 where
  node : ℕ → ℕ → ℕ → Line
  step : ℕ → ℕ → Line

abbrev pub rec : Line → Rec
rec (node k a b) = record { kind = 17; body = word k ++ (word a ++ word b) }
rec (step s q) = record { kind = 18; body = word s ++ word q }

-- no node comes after a step
abbrev pub InOrder : ℕ → Line → Type 0
InOrder steps (node k a b) = steps ≡ 0
InOrder steps (step s q) = Unit {0}

-- at most 512 nodes and 128 steps
abbrev pub HasRoom : ℕ → ℕ → Line → Type 0
HasRoom nodes steps (node k a b) = nodes < 512
HasRoom nodes steps (step s q) = steps < 128

-- how many nodes and steps there are with one line more
abbrev pub more_nodes : Line → ℕ → ℕ
more_nodes (node k a b) n = suc n
more_nodes (step s q) n = n

abbrev pub more_steps : Line → ℕ → ℕ
more_steps (node k a b) n = n
more_steps (step s q) n = suc n
