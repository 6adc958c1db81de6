use Rattle.std.proofs.Common.{◌≡◌, ℕ, ◌<◌, List, [], length, get_or, Some, None, sym, ap, subst, ◌∙◌, arith}
use Rattle.std.proofs.lemmas.List.{length-map}
use Rattle.terms.specs.Nodes.{term}
use Rattle.terms.specs.Terms.{Message}
use Rattle.terms.specs.declared.node.Node.{Node}
use Rattle.protocol.specs.Lawful.{Content}
use Rattle.protocol.specs.Strands.{step_of}
use Rattle.protocol.specs.declared.step.Step.{Step}
use Rattle.protocol.specs.declared.step.Step.TheVariants.{Input}
use Rattle.sheet.specs.Sheets.{content_of}
use Rattle.unification.specs.declared.binding.Binding.{Binding}
use Rattle.matching.specs.Matchings.{bound}
use Rattle.limits.specs.Beginnings.{StepFits, Taken, strand_steps}
use Rattle.limits.proofs.Beginnings.{reached_none, reached_more, reached_stops, reached_ends}
use Rattle.limits.proofs.Sheets.{terms_said, steps_fit, sound_sheet, steps_read, step_next}
use Rattle.limits.proofs.walk.longest.Goals as goal
use Rattle.limits.proofs.walk.longest.Goals.{After-steps-steps}

-- what a read past the last step gives
abbrev no_step : Step
no_step = Input (record { 0 = 0 }) (record { 0 = 0 })

read : (c : After-steps-steps) → c.steps-steps.result.now ≡ get_or (content_of c.args.sheet.now).strands c.args.k []
read c = steps_read (content_of c.args.sheet.now) c.strands.result.now c.args.k c.index-strands-k.result c.steps-steps.result.now c.strands.ensures c.requires.strand c.index-strands-k.is c.steps-steps.ensures

pub loop-n-init : goal.loop-n-init
loop-n-init c =
    let C : Content = content_of c.args.sheet.now in
    record {
      nodes = c.in_ok-matching.ensures.0;
      reached = reached_none (strand_steps C c.args.k) C.nodes (bound c.in_ok-matching.matching) c.none-demands.result c.in_ok-matching.ensures.1 c.none-demands.ensures.messages c.none-demands.ensures.atoms;
    }

pub take-requires-clause-said : goal.take-requires-clause-said
take-requires-clause-said c =
    let C : Content = content_of c.args.sheet.now in
    subst (λ (ns : List Node). (i : ℕ) → Message (term ns i)) (sym c.requires.nodes) (terms_said C (sound_sheet c.args.sheet.now))

pub take-requires-clause-fits : goal.take-requires-clause-fits
take-requires-clause-fits c =
    let C : Content = content_of c.args.sheet.now in
    let same : c.steps-steps.result.now ≡ get_or C.strands c.args.k [] = steps_read C c.strands.result.now c.args.k c.index-strands-k.result c.steps-steps.result.now c.strands.ensures c.requires.strand c.index-strands-k.is c.steps-steps.ensures in
    subst (λ (ns : List Node). StepFits ns (get_or c.steps-steps.result.now c.loop-n.n no_step)) (sym c.requires.nodes) (subst (λ (ps : List Step). StepFits C.nodes (get_or ps c.loop-n.n no_step)) (sym same) (steps_fit C (sound_sheet c.args.sheet.now) c.args.k c.loop-n.n no_step (omega (arith, ap length same, c.loop-n-test.true))))

pub loop-n-preserved : goal.loop-n-preserved
loop-n-preserved c =
    let C : Content = content_of c.args.sheet.now in
    let n = c.loop-n.n in
    let B : List Binding = bound c.loop-n.matching in
    let B' : List Binding = bound c.take.new.m in
    let same : c.steps-steps.result.now ≡ get_or C.strands c.args.k [] = steps_read C c.strands.result.now c.args.k c.index-strands-k.result c.steps-steps.result.now c.strands.ensures c.requires.strand c.index-strands-k.is c.steps-steps.ensures in
    let within : c.loop-n.n < length (get_or C.strands c.args.k []) = omega (arith, ap length same, c.loop-n-test.true) in
    let taken : Taken C.nodes B c.loop-n.demands (step_of C.nodes (get_or (get_or C.strands c.args.k []) c.loop-n.n no_step)) B' (Some c.in-Some.more) =
    subst (λ (ps : List Step). Taken C.nodes B c.loop-n.demands (step_of C.nodes (get_or ps c.loop-n.n no_step)) B' (Some c.in-Some.more)) same (subst (λ (ns : List Node). Taken ns B c.loop-n.demands (step_of ns (get_or c.steps-steps.result.now c.loop-n.n no_step)) B' (Some c.in-Some.more)) c.loop-n.invariant.nodes c.in-Some.ensures.answer) in
    record {
      nodes = c.in-Some.ensures.nodes ∙ c.loop-n.invariant.nodes;
      reached = reached_more (strand_steps C c.args.k) n (step_of C.nodes (get_or (get_or C.strands c.args.k []) n no_step)) (step_next C c.args.k n no_step within) C.nodes B c.loop-n.demands c.loop-n.invariant.reached B' c.in-Some.more taken;
    }

pub returns-in-None : goal.returns-in-None
returns-in-None c =
    let C : Content = content_of c.args.sheet.now in
    let n = c.loop-n.n in
    let B : List Binding = bound c.loop-n.matching in
    let B' : List Binding = bound c.take.new.m in
    let same : c.steps-steps.result.now ≡ get_or C.strands c.args.k [] = steps_read C c.strands.result.now c.args.k c.index-strands-k.result c.steps-steps.result.now c.strands.ensures c.requires.strand c.index-strands-k.is c.steps-steps.ensures in
    let within : c.loop-n.n < length (get_or C.strands c.args.k []) = omega (arith, ap length same, c.loop-n-test.true) in
    let taken : Taken C.nodes B c.loop-n.demands (step_of C.nodes (get_or (get_or C.strands c.args.k []) c.loop-n.n no_step)) B' None =
    subst (λ (ps : List Step). Taken C.nodes B c.loop-n.demands (step_of C.nodes (get_or ps c.loop-n.n no_step)) B' None) same (subst (λ (ns : List Node). Taken ns B c.loop-n.demands (step_of ns (get_or c.steps-steps.result.now c.loop-n.n no_step)) B' None) c.loop-n.invariant.nodes c.in-None.ensures.answer) in
    reached_stops (strand_steps C c.args.k) n (step_of C.nodes (get_or (get_or C.strands c.args.k []) n no_step)) (step_next C c.args.k n no_step within) C.nodes B c.loop-n.demands c.loop-n.invariant.reached B' (omega (arith, within, length-map (get_or C.strands c.args.k []) (step_of C.nodes))) taken

pub returns : goal.returns
returns c =
    let C : Content = content_of c.args.sheet.now in
    let same : c.steps-steps.result.now ≡ get_or C.strands c.args.k [] = steps_read C c.strands.result.now c.args.k c.index-strands-k.result c.steps-steps.result.now c.strands.ensures c.requires.strand c.index-strands-k.is c.steps-steps.ensures in
    let end : c.loop-n.n ≡ length c.steps-steps.result.now = omega (arith, c.loop-n-test.false, c.loop-n.auto.n-end) in
    rw (sym end) (reached_ends (strand_steps C c.args.k) c.loop-n.n C.nodes (bound c.loop-n.matching) c.loop-n.demands (omega (arith, end, ap length same, length-map (get_or C.strands c.args.k []) (step_of C.nodes))) c.loop-n.invariant.reached)
