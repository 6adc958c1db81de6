use Rattle.std.proofs.Common.{◌≡◌, Some, None, rules, refl, sym, ◌∙◌}
use Rattle.std.proofs.lemmas.Result.{err_from_is_err_and}
use Rattle.std.proofs.lemmas.Bool.{false≢true}
use Rattle.playing.specs.declared.faults.StepFault.TheVariants.{NotWritten}
use Rattle.bench.specs.Steps.{noted_in}
use Rattle.bench.specs.Steps.{PageOf}
use Rattle.bench.specs.Tables.{protocol_in, nodes_of, situation}
use Rattle.bench.proofs.Calling.{fed_performs, fed_well, not_written, not_derivable}
use Rattle.bench.proofs.bench.Bench.feed.Goals as goal

pub returns-in_err-node-clause-fed : goal.returns-in_err-node-clause-fed
returns-in_err-node-clause-fed g c =
    let t = c.args.self.now.tables in
    let p = err_from_is_err_and c.from_residual-in_err-node.result c.from_residual-in_err-node.ensures.1 in
    let none : PageOf (nodes_of t) t.written.items c.args.place.0 None = search rules in
    let why : c.in_err-node.field-0.0 ≡ NotWritten = search rules in
    rw (p.1, p.2, why) (not_written (protocol_in t) (nodes_of t) t.written.items (situation t) c.args.strand.0 c.args.place.0 c.in_ok-label.label c.in_ok-label.variable refl c.in_ok-label.ensures none)

pub returns-then-not-is_derived-clause-fed : goal.returns-then-not-is_derived-clause-fed
returns-then-not-is_derived-clause-fed g c =
    let b = c.args.self.now in
    let t = b.tables in
    let some : PageOf (nodes_of t) t.written.items c.args.place.0 (Some c.in_ok-node.node) = search rules in
    not_derivable (protocol_in t) (nodes_of t) t.run.items t.written.items (situation t) c.args.strand.0 c.args.place.0 c.in_ok-label.label c.in_ok-label.variable c.in_ok-node.node refl refl c.in_ok-label.ensures some
    (λ e. false≢true (sym c.if-not-is_derived.true ∙ c.is_derived.ensures.1 e))

pub perform-requires-clause-performs : goal.perform-requires-clause-performs
perform-requires-clause-performs g c =
    let b = c.args.self.now in
    let t = b.tables in
    let some : PageOf (nodes_of t) t.written.items c.args.place.0 (Some c.in_ok-node.node) = search rules in
    fed_performs (protocol_in t) (nodes_of t) t.run.items t.written.items (situation t) c.args.strand.0 c.args.place.0 c.in_ok-label.label c.in_ok-label.variable c.in_ok-node.node t.pages.lawful t.reached refl refl c.in_ok-label.ensures some (c.is_derived.ensures.0 c.if-not-is_derived.false)

pub returns-clause-fed : goal.returns-clause-fed
returns-clause-fed g c =
    let b = c.args.self.now in
    let t = b.tables in
    let some : PageOf (nodes_of t) t.written.items c.args.place.0 (Some c.in_ok-node.node) = search rules in
    fed_well (protocol_in t) (nodes_of t) t.run.items t.written.items (situation t) _ c.args.strand.0 c.args.place.0 c.in_ok-label.label c.in_ok-label.variable c.in_ok-node.node refl refl c.in_ok-label.ensures some (c.is_derived.ensures.0 c.if-not-is_derived.false) c.perform.ensures.situation
