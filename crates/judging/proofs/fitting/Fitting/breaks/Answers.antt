use Rattle.sheet.specs.Sheets.{content_of}
use Rattle.judging.specs.Fittings.{closed_nodes}
use Rattle.judging.specs.Places.{values_in}
use Rattle.judging.proofs.Reading.{law_of, later_held, earlier_held}
use Rattle.judging.proofs.Finding.{none_held, no_values}
use Rattle.judging.proofs.Breaking.{breaks_unmet, breaks_alone, breaks_after}
use Rattle.judging.proofs.fitting.Fitting.breaks.Goals as goal

pub fit_action-requires-clause-wanted_held : goal.fit_action-requires-clause-wanted_held
fit_action-requires-clause-wanted_held c = later_held c.args.self.now.sheet.now c.property-earlier.result c.property-earlier.ensures

pub fit_action-requires-clause-values_held : goal.fit_action-requires-clause-values_held
fit_action-requires-clause-values_held c = none_held (closed_nodes c.args.self.now) 64

pub comes-requires-clause-wanted_held : goal.comes-requires-clause-wanted_held
comes-requires-clause-wanted_held c = earlier_held c.args.self.now.sheet.now c.property-earlier.result c.in-Some-earlier.wanted c.property-earlier.ensures c.in-Some-earlier.is

pub returns-in_default : goal.returns-in_default
returns-in_default c =
    let s = c.args.self.now.sheet.now in
    let ns = closed_nodes c.args.self.now in
    breaks_unmet (content_of s) (law_of s) c.property-earlier.result c.property-earlier.ensures ns c.args.before.now c.args.action _ (no_values ns 64) (rw c.in_default.is at c.fit_action.ensures)

pub returns-in-None : goal.returns-in-None
returns-in-None c =
    let s = c.args.self.now.sheet.now in
    let ns = closed_nodes c.args.self.now in
    let m = c.in-Some.ensures in
    breaks_alone (content_of s) (law_of s) c.property-earlier.result c.property-earlier.ensures ns c.args.before.now c.args.action _ (no_values ns 64) (values_in ns c.in-Some.values) m.1 m.2 m.3 c.in-None.is

pub returns-in-Some-earlier : goal.returns-in-Some-earlier
returns-in-Some-earlier c =
    let s = c.args.self.now.sheet.now in
    let ns = closed_nodes c.args.self.now in
    let m = c.in-Some.ensures in
    breaks_after (content_of s) (law_of s) c.property-earlier.result c.property-earlier.ensures ns c.args.before.now c.args.action _ (no_values ns 64) (values_in ns c.in-Some.values) m.1 m.2 m.3 c.in-Some-earlier.wanted c.comes.result c.in-Some-earlier.is c.comes.ensures
