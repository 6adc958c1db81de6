use Rattle.std.proofs.Common.{◌<◌, List, [], ◌∷◌, length, vec_items, sym, ap, ◌∙◌, inl, inr, arith, length-append}
use Rattle.std.proofs.lemmas.Bool.{eqb-true, eqb-false}
use Rattle.std.proofs.lemmas.Bool.Decides.{nat_tests}
use Rattle.stack.specs.Waiting.{waiting}
use Rattle.terms.specs.declared.number.NodeNo.{NodeNo}
use Rattle.unification.specs.declared.ask.Ask.{Ask}
use Rattle.unification.proofs.Counting.{heads_some}
use Rattle.unification.proofs.Joining.{known, united_left, united_right}
use Rattle.matching.proofs.classes.Classes.join.Goals as goal

pub returns-then-eq-clause-joined : goal.returns-then-eq-clause-joined
returns-then-eq-clause-joined c =
    let same = eqb-true c.find-i.result.0 c.find-j.result.0 (sym c.eq.ensures ∙ c.if-eq.true) in
    inl (known (vec_items c.args.self.now.parents) (waiting c.args.asks.now) c.args.w.left.0 c.args.w.right.0 c.args.first c.args.second c.find-i.result.0 c.find-j.result.0 c.find-i.ensures.way c.find-j.ensures.way same)

pub wait-requires-2 : goal.wait-requires-2
wait-requires-2 c =
    let s = c.args.self.now in
    let h = heads_some 0 (vec_items s.parents) c.find-i.result.0 (omega (arith, s.parents.ok.0, c.find-i.ensures.low, c.requires.left)) (omega (arith, c.find-i.ensures.root)) in
    let l = length-append (waiting c.args.asks.now) (c.args.first ∷ []) in
    omega (arith, h, l, c.requires.free, ap length c.wait.ensures.items, c.wait.ensures.size)

pub returns-then-lt-clause-joined : goal.returns-then-lt-clause-joined
returns-then-lt-clause-joined c =
    let s = c.args.self.now in
    let P : List NodeNo = vec_items s.parents in
    let W : List Ask = waiting c.args.asks.now in
    let test = sym c.lt.ensures ∙ c.if-lt.true in
    let lower : c.find-i.result.0 < c.find-j.result.0 = grind (arith, nat_tests) in
    let u = united_right P W c.args.w.left.0 c.args.w.right.0 c.args.first c.args.second c.find-i.result c.find-j.result.0 (waiting c.wait.new.asks) (waiting c.wait-2.new.asks) c.find-i.ensures.way c.find-j.ensures.way lower (omega (arith, s.parents.ok.0, c.find-j.ensures.low, c.requires.right)) c.find-j.ensures.root c.wait.ensures.items c.wait-2.ensures.items in
    inr (rw c.link.ensures u)

pub returns-else-lt-clause-joined : goal.returns-else-lt-clause-joined
returns-else-lt-clause-joined c =
    let s = c.args.self.now in
    let P : List NodeNo = vec_items s.parents in
    let W : List Ask = waiting c.args.asks.now in
    let test = sym c.lt.ensures ∙ c.if-lt.false in
    let other = eqb-false c.find-i.result.0 c.find-j.result.0 (sym c.eq.ensures ∙ c.if-eq.false) in
    let lower : c.find-j.result.0 < c.find-i.result.0 = grind (arith, nat_tests) in
    let u = united_left P W c.args.w.left.0 c.args.w.right.0 c.args.first c.args.second c.find-i.result.0 c.find-j.result (waiting c.wait.new.asks) (waiting c.wait-2.new.asks) c.find-i.ensures.way c.find-j.ensures.way lower (omega (arith, s.parents.ok.0, c.find-i.ensures.low, c.requires.left)) c.find-i.ensures.root c.wait.ensures.items c.wait-2.ensures.items in
    inr (rw c.link-else-lt.ensures u)
