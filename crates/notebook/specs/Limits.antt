-- What a notebook can hold. The numbers are those of src/limits.rt.
use Rattle.std.specs.Prelude.{◌≡◌, ℕ}
use Rattle.notebook.specs.declared.limits.TheConstants.{MOST_NODES, MOST_NOTES, LOCAL_NAMES, ENV_NAMES}

-- the most nodes
abbrev pub most_nodes : ℕ
most_nodes = MOST_NODES

-- the most noted places
abbrev pub most_notes : ℕ
most_notes = MOST_NOTES

-- local names have numbers below this
abbrev pub local_names : ℕ
local_names = LOCAL_NAMES

-- names of the environment have numbers below this
abbrev pub env_names : ℕ
env_names = ENV_NAMES

-- the numbers: 768 nodes, 128 noted places, local names below 64, names of the environment below 256
abbrev pub LimitsAre : Type 0
LimitsAre = (most_nodes ≡ 768) × (most_notes ≡ 128) × (local_names ≡ 64) × (env_names ≡ 256)
