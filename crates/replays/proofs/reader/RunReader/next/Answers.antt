use Rattle.std.proofs.Common.{rules, ◌≡◌, ◌++◌, Err, sym, ap, ◌∙◌, refl, arith}
use Rattle.records.specs.Bytes.{Rec, encode}
use Rattle.records.specs.Reading.{rec_of, rest}
use Rattle.replays.specs.Lines as lines
use Rattle.replays.specs.Decoding.{line_of}
use Rattle.replays.specs.declared.faults.RunFault.TheVariants.{Kind}
use Rattle.replays.proofs.Reading.{late_node}
use Rattle.replays.proofs.reader.RunReader.next.Goals as goal

pub returns-in_err-line : goal.returns-in_err-line
returns-in_err-line c =
    let r = rw c.in-Some.is at c.in_ok-found.ensures in
    let d : (l : lines.Line) → ¬ (lines.rec l ≡ rec_of c.in-Some.found) = search rules in
    let q : c.from_residual-in_err-line.result ≡ Err (Kind c.count-place.result) = search rules in
    rw q (rec_of c.in-Some.found, r.0, λ l h i. d l h, c.count-place.ensures, refl, refl, r.1)

pub returns-in-Node : goal.returns-in-Node
returns-in-Node c =
    let r = rw c.in-Some.is at c.in_ok-found.ensures in
    let f = c.in-Node.field-0 in
    let t : lines.rec (line_of c.in_ok-line.line) ≡ rec_of c.in-Some.found = search rules in
    let e = rw c.in-Node.is at t in
    (rec_of c.in-Some.found, r.0, late_node (rec_of c.in-Some.found) c.args.self.now.steps f.kind f.a f.b e c.if-self-gt0.true, c.count-place.ensures, refl, refl, r.1)

pub returns-in-Node-2 : goal.returns-in-Node-2
returns-in-Node-2 c =
    let r = rw c.in-Some.is at c.in_ok-found.ensures in
    let f = c.in-Node.field-0 in
    let t : lines.rec (line_of c.in_ok-line.line) ≡ rec_of c.in-Some.found = search rules in
    let e = rw c.in-Node.is at t in
    (lines.node f.kind f.a f.b, r.0 ∙ ap (λ (x : Rec). encode x ++ rest c.next.new.self) (sym e), omega (arith, c.if-self-gt0.false), λ h. omega (arith, h, c.if-self-ge-MOST_NODES.true), c.count-place.ensures, refl, refl, r.1)

pub returns-in-Step : goal.returns-in-Step
returns-in-Step c =
    let r = rw c.in-Some.is at c.in_ok-found.ensures in
    let t : lines.rec (line_of c.in_ok-line.line) ≡ rec_of c.in-Some.found = search rules in
    let e = rw c.in-Step.is at t in
    (lines.step c.in-Step.strand.0 c.in-Step.place.0, r.0 ∙ ap (λ (x : Rec). encode x ++ rest c.next.new.self) (sym e), tt, λ h. omega (arith, h, c.if-self-ge-MOST_STEPS.true), c.count-place.ensures, refl, refl, r.1)
