-- Seven sheets by their tables. Every text is one letter.
use Rattle.std.specs.Prelude.{ℕ, List, [], ◌∷◌, map, Some, None}
use Rattle.terms.specs.declared.node.Node.{Node}
use Rattle.terms.specs.declared.node.Node.TheVariants.{Name, Var, Pair, Seal}
use Rattle.protocol.specs.declared.step.Step.{Step}
use Rattle.protocol.specs.declared.step.Step.TheVariants.{Input, Output, Same}
use Rattle.protocol.specs.declared.step.Action.{Action}
use Rattle.protocol.specs.declared.step.Direction.TheVariants as direction
use Rattle.protocol.specs.declared.step.Property.{Property}
use Rattle.protocol.specs.Lawful.{Content}

-- nodes by their numbers
abbrev pub a_name : ℕ → Node
a_name n = Name (record { 0 = n })

abbrev pub a_variable : ℕ → Node
a_variable x = Var (record { 0 = x })

abbrev pub a_pair : ℕ → ℕ → Node
a_pair a b = Pair (record { 0 = a }) (record { 0 = b })

abbrev pub a_seal : ℕ → ℕ → Node
a_seal b k = Seal (record { 0 = b }) (record { 0 = k })

-- steps: a label with a variable, a label with a node, two nodes
abbrev pub inputs : ℕ → ℕ → Step
inputs l x = Input (record { 0 = l }) (record { 0 = x })

abbrev pub outputs : ℕ → ℕ → Step
outputs l n = Output (record { 0 = l }) (record { 0 = n })

abbrev pub equates : ℕ → ℕ → Step
equates a b = Same (record { 0 = a }) (record { 0 = b })

-- actions: a label with a node
abbrev pub input_of : ℕ → ℕ → Action
input_of l n = record { direction = direction.Input; label = record { 0 = l }; node = record { 0 = n } }

abbrev pub output_of : ℕ → ℕ → Action
output_of l n = record { direction = direction.Output; label = record { 0 = l }; node = record { 0 = n } }

-- the later action is never to come, or only after the earlier
abbrev pub never : Action → Property
never b = record { earlier = None; later = b }

abbrev pub only_after : Action → Action → Property
only_after a b = record { earlier = Some a; later = b }

-- a text of one letter for each
abbrev pub letters : List ℕ → List (List ℕ)
letters bs = map (λ (b : ℕ). b ∷ []) bs

-- labels n and g, names d and k, variable x; nodes d, k, {d}k and the pair of {d}k and k; none before input g of d
abbrev pub secret_kept : List (List Step) → Content
secret_kept ss =
    record {
      labels = letters (110 ∷ 103 ∷ []);
      names = letters (100 ∷ 107 ∷ []);
      variables = letters (120 ∷ []);
      nodes = a_name 0 ∷ a_name 1 ∷ a_seal 0 1 ∷ a_pair 2 1 ∷ [];
      strands = ss;
      property = Some (never (input_of 1 0));
    }

-- strand 0 outputs {d}k, strand 1 inputs x at g
abbrev pub sheet_1 : Content
sheet_1 = secret_kept ((outputs 0 2 ∷ []) ∷ (inputs 1 0 ∷ []) ∷ [])

-- the same with the pair of {d}k and k
abbrev pub sheet_2 : Content
sheet_2 = secret_kept ((outputs 0 3 ∷ []) ∷ (inputs 1 0 ∷ []) ∷ [])

-- sheet 2 with its strands exchanged
abbrev pub sheet_3 : Content
sheet_3 = secret_kept ((inputs 1 0 ∷ []) ∷ (outputs 0 3 ∷ []) ∷ [])

-- output b of n; output a of v before output b of v
abbrev pub sheet_4 : Content
sheet_4 =
    record {
      labels = letters (97 ∷ 98 ∷ []);
      names = letters (110 ∷ []);
      variables = letters (118 ∷ []);
      nodes = a_name 0 ∷ a_variable 0 ∷ [];
      strands = (outputs 1 0 ∷ []) ∷ [];
      property = Some (only_after (output_of 0 1) (output_of 1 1));
    }

-- input x, input y, output a of x, output b of y; the property of sheet 4
abbrev pub sheet_5 : Content
sheet_5 =
    record {
      labels = letters (97 ∷ 98 ∷ 99 ∷ []);
      names = [];
      variables = letters (118 ∷ 120 ∷ 121 ∷ []);
      nodes = a_variable 0 ∷ a_variable 1 ∷ a_variable 2 ∷ [];
      strands = (inputs 2 1 ∷ inputs 2 2 ∷ outputs 0 1 ∷ outputs 1 2 ∷ []) ∷ [];
      property = Some (only_after (output_of 0 0) (output_of 1 0));
    }

-- input x, same x and the pair of x and x; none before output b of n
abbrev pub sheet_6 : Content
sheet_6 =
    record {
      labels = letters (97 ∷ 98 ∷ []);
      names = letters (110 ∷ []);
      variables = letters (120 ∷ []);
      nodes = a_name 0 ∷ a_variable 0 ∷ a_pair 1 1 ∷ [];
      strands = (inputs 0 0 ∷ equates 1 2 ∷ []) ∷ [];
      property = Some (never (output_of 1 0));
    }

-- input x, output b of {n}x; none before output c of n
abbrev pub sheet_7 : Content
sheet_7 =
    record {
      labels = letters (97 ∷ 98 ∷ 99 ∷ []);
      names = letters (110 ∷ []);
      variables = letters (120 ∷ []);
      nodes = a_name 0 ∷ a_variable 0 ∷ a_seal 0 1 ∷ [];
      strands = (inputs 0 0 ∷ outputs 1 2 ∷ []) ∷ [];
      property = Some (never (output_of 2 0));
    }
