use Rattle.std.proofs.Common.{rules, ◌≡◌, ◌<◌, length, slice_index_or, refl, sym, subst}
use Rattle.bench.specs.Tables.{sheet_in, situation}
use Rattle.bench.specs.Steps.{NextStep}
use Rattle.bench.proofs.Standings.{standing_told}
use Rattle.bench.proofs.tables.Tables.next_step.Goals as goal

pub returns-in-Some : goal.returns-in-Some
returns-in-Some c =
    let t = c.args.self.now in
    let held : c.args.strand.0 < length t.standings.items = search rules in
    let found : c.in-Some.standing.now ≡ slice_index_or t.standings.items c.args.strand.0 c.in-Some.standing.now = search rules in
    subst (NextStep (sheet_in t) (situation t) c.args.strand.0) (sym c.ok_or.ensures.value) (standing_told (sheet_in t) (situation t) t.standings.items c.args.strand.0 c.in-Some.standing.now c.step.result t.strands refl held found c.step.ensures)
