-- The run of a bench is one of messages, so it has a verdict.
use Rattle.std.proofs.Common.{◌<◌, length, get_or, Some, None, Option, subst, arith, refl}
use Rattle.std.specs.List.{All}
use Rattle.std.specs.Option.{IsSome}
use Rattle.std.proofs.Math.Logic.{∥∥₁_elim}
use Rattle.std.proofs.lemmas.List.{length-map, get_or-map}
use Rattle.terms.specs.Nodes.{term}
use Rattle.terms.specs.declared.number.NodeNo.{NodeNo}
use Rattle.protocol.specs.declared.step.Action.{Action}
use Rattle.runs.specs.Tables.{action_of}
use Rattle.runs.proofs.Valuing.{run_said}
use Rattle.playing.specs.declared.verdict.Verdict.{Verdict}
use Rattle.judging.specs.Judgements.{SaysMessage, Judgement}
use Rattle.judging.proofs.Breaking.{at_mapped}
use Rattle.bench.specs.Tables.{protocol_in, nodes_of, situation}
use Rattle.bench.specs.declared.tables.Tables.{Tables}
use Rattle.bench.proofs.Calling.{message_prop}

run_messages : (t : Tables) → All (SaysMessage (nodes_of t)) t.run.items
run_messages t i d l =
    let a : Action = get_or t.run.items i d in
    let held = t.run_held i (omega (arith, l, length-map t.run.items (λ (b : Action). b.node))) in (
      subst (λ (p : NodeNo). p.0 < length (nodes_of t)) (get_or-map (λ (b : Action). b.node) t.run.items i d (record { 0 = 0 }) l) held,
      ∥∥₁_elim t.reached (message_prop (term (nodes_of t) a.node.0)) (λ g. (run_said (protocol_in t) g.0.0 (situation t).state g.0.1 (action_of (nodes_of t) a) (at_mapped (action_of (nodes_of t)) t.run.items i d l)).1),
    )

pub has_verdict : (t : Tables) (r : Option Verdict) → Judgement (protocol_in t) (nodes_of t) t.run.items r → IsSome r
has_verdict t None j = absurd (j (run_messages t))
has_verdict t (Some v) j = refl
