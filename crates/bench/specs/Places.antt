-- What lists of places mean over a table of nodes.
use Rattle.std.specs.Prelude.{◌≡◌, ℕ, ◌<◌, ◌≤◌, ◌+◌, List, ◌++◌, map, length, Some, None, Option, slice_index_or}
use Rattle.std.specs.Coded.{Π_prop, →_prop}
use Rattle.std.specs.List.{sum_by}
use Rattle.std.proofs.Math.Option.{Option as Maybe, none, some}
use mathlib.Core.Option.{is_set}
use Rattle.terms.proofs.Equality.{term_set}
use Rattle.terms.specs.Terms.{Term, name, env, pair, seal}
use Rattle.terms.specs.Nodes.{term}
use Rattle.terms.specs.declared.node.Node.{Node}
use Rattle.terms.specs.declared.node.Node.TheVariants.{Name, Env, Var, Pair, Seal}
use Rattle.terms.specs.declared.number.NodeNo.{NodeNo}
use Rattle.protocol.specs.declared.step.Action.{Action}
use Rattle.protocol.specs.declared.step.Step.{Step}
use Rattle.protocol.specs.declared.strand.Strand.{Strand}
use Rattle.protocol.specs.Strands.{steps_of}
use Rattle.runs.specs.Runs.{Values, State}
use Rattle.runs.specs.Tables.{action_of}
use Rattle.runs.specs.Valued.{valued, both}
use Rattle.notebook.specs.Limits.{local_names, env_names}
use Rattle.playing.specs.Calls.{Situation}
use Rattle.judging.specs.Places.{term_at, values_in}
use Rattle.bench.specs.declared.standing.Standing.{Standing}

-- the number of each strand's next step
abbrev pub next_in : List Standing → ℕ → ℕ
next_in ss k = slice_index_or (map (λ s. s.next) ss) k 0

-- a strand before its first step
abbrev pub standing_first : Strand → Standing
standing_first s = record { strand = s; next = 0 }

-- the steps of the strands
abbrev pub strands_in : List Standing → List (List Step)
strands_in ss = map (λ s. steps_of s.strand) ss

-- the terms at places
abbrev pub terms_at : List Node → List NodeNo → List Term
terms_at ns ps = map (λ p. term ns p.0) ps

-- where the run stands
abbrev pub state_in : List Node → List Standing → List (Option NodeNo) → List Action → State
state_in ns ss vs acts = record { next = next_in ss; value = values_in ns vs; run = map (action_of ns) acts }

-- and what is written
abbrev pub situation_in : List Node → List Standing → List (Option NodeNo) → List Action → List NodeNo → Situation
situation_in ns ss vs acts ps = record { state = state_in ns ss vs acts; written = terms_at ns ps }

-- every place that a row has is held
abbrev pub KeptIn : List Node → List (Option NodeNo) → Type 0
KeptIn ns vs = (x : ℕ) (p : NodeNo) → slice_index_or vs x None ≡ Some p → p.0 < length ns

-- every place of a list is held
abbrev pub HeldIn : List Node → List NodeNo → Type 0
HeldIn ns ps = (i : ℕ) → i < length ps → (slice_index_or ps i (record { 0 = 0 })).0 < length ns

-- the places of the run's terms
abbrev pub run_places : List Action → List NodeNo
run_places acts = map (λ (a : Action). a.node) acts

-- each node of the sheet has the place of its value, where its value is told
abbrev pub Placed : List Node → List Node → List (Option NodeNo) → List (Option NodeNo) → Type 0
Placed ns ss vs ps = (i : ℕ) → i < length ss → term_at ns (slice_index_or ps i None) ≡ valued (values_in ns vs) (term ss i)

-- each node of the sheet that has a place has that of its value
abbrev pub PlacedRight : List Node → List Node → List (Option NodeNo) → List (Option NodeNo) → Type 0
PlacedRight ns ss vs ps = (i : ℕ) (p : NodeNo) → i < length ss → slice_index_or ps i None ≡ Some p → valued (values_in ns vs) (term ss i) ≡ some (term ns p.0)

-- Placed is so in one way at most
pub Placed-prop : (ns ss : List Node) (vs ps : List (Option NodeNo)) → IsProp (Placed ns ss vs ps)
Placed-prop ns ss vs ps = Π_prop (λ i. →_prop (is_set term_set _ _))

-- how many places a row has
abbrev pub one : Option NodeNo → ℕ
one None = 0
one (Some p) = 1

abbrev pub count : List (Option NodeNo) → ℕ
count ps = sum_by one ps

-- the table is as it was, with nodes added
abbrev pub Extends : List Node → List Node → Type 0
Extends ns ms = (more : List Node) × (ms ≡ ns ++ more)

-- a node that a sheet may have, its names and variables within their limits
abbrev pub PlainNode : Node → Type 0
PlainNode (Name n) = n.0 < local_names
PlainNode (Env e) = e.0 < env_names
PlainNode (Var x) = x.0 < 64
PlainNode (Pair a b) = (a.0 < 256) × (b.0 < 256)
PlainNode (Seal b k) = (b.0 < 256) × (k.0 < 256)

-- the value of a node, from those of the variables and of its parts
abbrev pub said_by : Values → (ℕ → Maybe Term) → Node → Maybe Term
said_by v f (Name n) = some (name n.0)
said_by v f (Env e) = some (env e.0)
said_by v f (Var x) = v x.0
said_by v f (Pair a b) = both pair (f a.0) (f b.0)
said_by v f (Seal b k) = both seal (f b.0) (f k.0)

-- a value is placed, by a node more at most; or there is none
abbrev pub PlacesValue : List Node → Maybe Term → Option NodeNo → List Node → Type 0
PlacesValue ns v None ms = (ms ≡ ns) × (v ≡ none)
PlacesValue ns v (Some p) ms = Extends ns ms × (length ms ≤ length ns + 1) × (p.0 < length ms) × (v ≡ some (term ms p.0))

-- the values of the first n nodes of the sheet are placed, from a table ns and places qs on
pub record Swept (ns ss : List Node) (vs qs : List (Option NodeNo)) (n : ℕ) (ms : List Node) (ps : List (Option NodeNo)) : Type 0 where
  pub grown : Extends ns ms
  pub kept : KeptIn ms ps
  pub right : (i : ℕ) (p : NodeNo) → i < length ss → slice_index_or ps i None ≡ Some p → valued (values_in ns vs) (term ss i) ≡ some (term ms p.0)
  pub done : (i : ℕ) → i < n → term_at ms (slice_index_or ps i None) ≡ valued (values_in ns vs) (term ss i)
  pub few : length ms + count qs ≤ length ns + count ps
  pub size : length ps ≡ length qs
