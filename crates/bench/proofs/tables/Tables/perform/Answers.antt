use Rattle.std.proofs.Common.{◌≡◌, ℕ, arith, sym, ◌∙◌, subst}
use Rattle.std.proofs.lemmas.List.{length-map}
use mathlib.Core.Option.{some}
use Rattle.terms.specs.Terms.{Term}
use Rattle.pages.specs.Pages.{nodes_on}
use Rattle.runs.specs.Runs.{Values}
use Rattle.runs.specs.Tables.{action_of}
use Rattle.judging.specs.Places.{values_in}
use Rattle.bench.specs.Tables.{sheet_in, nodes_of, situation, protocol_in}
use Rattle.judging.proofs.Reading.{law_of}
use Rattle.bench.proofs.Places.{extends_kept, sound_of}
use Rattle.bench.proofs.Growth.{extends_held}
use Rattle.bench.proofs.Starts.{swept_placed}
use Rattle.bench.proofs.Bound.{right_after, step_stays}
use Rattle.bench.proofs.Performed.{sheet_lawful, next_small, run_small, performed_situation, performed_reached, acted_held}
use Rattle.bench.proofs.tables.Tables.perform.Goals as goal

pub advance-requires-clause-short : goal.advance-requires-clause-short
advance-requires-clause-short c =
    let t = c.args.self.now in
    let d = c.requires.performs in
    let h = next_small (sheet_in t) (sound_of t.sheet) (situation t) c.args.strand.0 d.0 d.1 in
    omega (arith, h.1)

pub place_all-requires-clause-right : goal.place_all-requires-clause-right
place_all-requires-clause-right c =
    let t = c.args.self.now in
    let d = c.requires.performs in
    let e = c.bind.ensures.values (nodes_of t) c.requires.held in
    let s = step_stays (protocol_in t) (situation t) c.args.strand.0 d.0 _ _ (sheet_lawful t.sheet) t.reached d.1 d.2 in
    right_after _ _ _ _ _ (subst (λ (w : Values). (x : ℕ) (M : Term) → values_in (nodes_of t) t.values x ≡ some M → w x ≡ some M) (sym e) s) t.told

pub record-requires : goal.record-requires
record-requires c =
    let t = c.args.self.now in
    let d = c.requires.performs in
    let h = run_small (sheet_in t) (law_of t.sheet) (situation t) t.reached c.args.strand.0 d.0 d.1 in
    omega (arith, h, length-map t.run.items (action_of (nodes_of t)), t.run.ok.0, t.run_room)

pub invariant_of-self-clause-strands : goal.invariant_of-self-clause-strands
invariant_of-self-clause-strands c = c.advance.ensures.strands ∙ c.args.self.now.strands

pub invariant_of-self-clause-values_held : goal.invariant_of-self-clause-values_held
invariant_of-self-clause-values_held c = extends_kept _ _ _ c.place_all.ensures.grown (c.bind.ensures.held (nodes_of c.args.self.now) c.requires.held c.args.self.now.values_held)

pub invariant_of-self-clause-written_held : goal.invariant_of-self-clause-written_held
invariant_of-self-clause-written_held c = extends_held _ _ _ c.place_all.ensures.grown c.args.self.now.written_held

pub invariant_of-self-clause-run_held : goal.invariant_of-self-clause-run_held
invariant_of-self-clause-run_held c = extends_held _ _ _ c.place_all.ensures.grown (acted_held _ c.args.self.now.run.items _ c.args.effect c.record.ensures.run c.requires.held c.args.self.now.run_held)

pub invariant_of-self-clause-told : goal.invariant_of-self-clause-told
invariant_of-self-clause-told c = swept_placed _ _ _ _ _ _ (c.bind.ensures.held (nodes_of c.args.self.now) c.requires.held c.args.self.now.values_held) c.place_all.ensures

pub invariant_of-self-clause-reached : goal.invariant_of-self-clause-reached
invariant_of-self-clause-reached c =
    let t = c.args.self.now in
    let next = c.advance.ensures.next in
    let e = performed_situation (nodes_of t) _ t.standings.items _ t.values _ t.run.items _ t.written.items c.args.strand.0 c.args.effect c.place_all.ensures.grown (c.bind.ensures.held (nodes_of t) c.requires.held t.values_held) t.run_held t.written_held c.requires.held next (c.bind.ensures.values (nodes_of t) c.requires.held) c.record.ensures.run in
    performed_reached (protocol_in t) (nodes_of t) (situation t) _ c.args.strand.0 c.args.effect t.reached c.requires.performs e

pub returns-clause-situation : goal.returns-clause-situation
returns-clause-situation c =
    let t = c.args.self.now in
    let next = c.advance.ensures.next in
    performed_situation (nodes_of t) (nodes_on c.place_all.new.pages) t.standings.items c.advance.new.standings.items t.values c.bind.new.values t.run.items c.record.new.run.items t.written.items c.args.strand.0 c.args.effect c.place_all.ensures.grown (c.bind.ensures.held (nodes_of t) c.requires.held t.values_held) t.run_held t.written_held c.requires.held next (c.bind.ensures.values (nodes_of t) c.requires.held) c.record.ensures.run
