-- What a judgement and its parts answer.
use Rattle.std.specs.Prelude.{◌≡◌, ℕ, ◌<◌, List, map, length, Some, None, Option, All, slice_index_or}
use Rattle.std.proofs.Math.Option.{some}
use mathlib.Core.List.{Memᴰ}
use Rattle.terms.specs.Terms.{Message}
use Rattle.terms.specs.Nodes.{term}
use Rattle.terms.specs.declared.node.Node.{Node}
use Rattle.terms.specs.declared.number.NodeNo.{NodeNo}
use Rattle.protocol.specs.declared.step.Action.{Action}
use Rattle.runs.specs.Protocols.{TermAction, Protocol}
use Rattle.runs.specs.Runs.{Values}
use Rattle.runs.specs.Tables.{action_of}
use Rattle.playing.specs.Judging.{fit}
use Rattle.playing.specs.Verdicts.{VerdictOf}
use Rattle.playing.specs.declared.verdict.Verdict.{Verdict}
use Rattle.judging.specs.Places.{values_in, AllHeld}

-- the places of a run are held
abbrev pub RunHeld : List Node → List Action → Type 0
RunHeld ns r = (i : ℕ) (a : Action) → i < length r → (slice_index_or r i a).node.0 < length ns

-- the run over terms
abbrev pub run_of : List Node → List Action → List TermAction
run_of ns r = map (action_of ns) r

-- an open action meets another from these values
abbrev pub Suits : Values → TermAction → TermAction → Type 0
Suits v e b = (w : Values) × (b.direction ≡ e.direction) × (b.label ≡ e.label) × (fit v e.term b.term ≡ some w)

-- the values by which it does are in a table
abbrev pub Suited : List Node → Values → TermAction → TermAction → Option (List (Option NodeNo)) → Type 0
Suited ns v e b None = ¬ Suits v e b
Suited ns v e b (Some qs) = AllHeld ns qs × (b.direction ≡ e.direction) × (b.label ≡ e.label) × (fit v e.term b.term ≡ some (values_in ns qs))

-- it meets some action of a run
abbrev pub Comes : Values → TermAction → List TermAction → Type 0
Comes v e r = (b : TermAction) × Memᴰ b r × Suits v e b

-- an action's place is held and its term is a message
abbrev pub SaysMessage : List Node → Action → Type 0
SaysMessage ns a = (a.node.0 < length ns) × Message (term ns a.node.0)

-- a run of messages has its verdict, and no other run has one
abbrev pub Judgement : Protocol → List Node → List Action → Option Verdict → Type 0
Judgement S ns r None = ¬ All (SaysMessage ns) r
Judgement S ns r (Some v) = All (SaysMessage ns) r × VerdictOf S (run_of ns r) v
