use Rattle.std.proofs.Common.{rules, ◌≡◌, map, [], ◌∙◌, ap}
use Rattle.sheet.specs.Sheets.{content_of}
use Rattle.pages.specs.Pages.{nodes_on}
use Rattle.bench.specs.Places.{strands_in, standing_first}
use Rattle.bench.proofs.Starts.{swept_placed, opened_reached, opens, first_strands}
use Rattle.bench.proofs.Places.{none_kept}
use Rattle.bench.proofs.tables.Tables.open.Goals as goal

pub invariant_of-result-clause-values_held : goal.invariant_of-result-clause-values_held
invariant_of-result-clause-values_held c = none_kept _ _ c.no_places-values.ensures

pub invariant_of-result-clause-told : goal.invariant_of-result-clause-told
invariant_of-result-clause-told c = swept_placed _ _ _ _ _ _ (none_kept _ _ c.no_places-values.ensures) c.place_all.ensures

pub invariant_of-result-clause-reached : goal.invariant_of-result-clause-reached
invariant_of-result-clause-reached c =
    let first : c.in_ok-standings.standings.items ≡ map standing_first c.strands.result.now = search rules in
    opened_reached _ _ (opens _ _ c.strands.result.now _ _ _ first c.no_places-values.ensures (search rules) (search rules))

pub invariant_of-result-clause-strands : goal.invariant_of-result-clause-strands
invariant_of-result-clause-strands c =
    let first : c.in_ok-standings.standings.items ≡ map standing_first c.strands.result.now = search rules in
    ap strands_in first ∙ first_strands c.strands.result.now ∙ c.strands.ensures

pub returns : goal.returns
returns c =
    let first : c.in_ok-standings.standings.items ≡ map standing_first c.strands.result.now = search rules in
    let none : c.in_ok-run.run'.items ≡ [] = search rules in
    let nothing : c.in_ok-written.written.items ≡ [] = search rules in
    let copy : content_of c.in_ok-sheet.sheet ≡ content_of c.args.sheet.now = search rules in
    (copy, opens (nodes_on c.place_all.new.pages) c.in_ok-standings.standings.items c.strands.result.now c.no_places-values.result c.in_ok-run.run'.items c.in_ok-written.written.items first c.no_places-values.ensures none nothing)
