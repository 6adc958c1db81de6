use Rattle.terms.proofs.Gathering.{pushed_ordered, pushed_gathered, pushed_narrow, same_table}
use Rattle.terms.proofs.table.NodeTable.push.Goals as goal

pub invariant_of-self-2 : goal.invariant_of-self-2
invariant_of-self-2 c =
    let s = c.args.self.now in
    let e = c.in_ok-push.ensures.items in
    let b = c.has_parts.ensures.0 c.if-not-has_parts.false in
    record {
      ordered = pushed_ordered _ _ _ s.ordered b e;
      gathered = pushed_gathered _ _ _ _ _ _ _ s.gathered c.gather-set.ensures e c.in_ok-reserve.ensures.items c.push_reserved.ensures.items;
      narrow = pushed_narrow _ _ _ s.narrow (c.narrow.ensures.0 c.if-not-narrow.false) e;
    }

pub invariant_of-self-in-Break-branch-2 : goal.invariant_of-self-in-Break-branch-2
invariant_of-self-in-Break-branch-2 c =
    let s = c.args.self.now in
    let all = same_table _ _ _ _ s.ordered s.gathered s.narrow c.in_err-push.ensures.items c.in_ok-reserve.ensures.items in
    record { ordered = all.0; gathered = all.1; narrow = all.2 }
