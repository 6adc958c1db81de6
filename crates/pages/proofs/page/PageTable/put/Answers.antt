use Rattle.pages.proofs.Paging.{push_lawful, push_firsts}
use Rattle.pages.proofs.page.PageTable.put.Goals as goal

pub invariant_of-self-clause-lawful : goal.invariant_of-self-clause-lawful
invariant_of-self-clause-lawful c = push_lawful _ _ _ c.args.self.now.lawful (c.is_lawful.ensures.0 c.if-not-is_lawful.false) c.push_reserved.ensures.items

pub invariant_of-self-clause-places : goal.invariant_of-self-clause-places
invariant_of-self-clause-places c = push_firsts _ _ _ c.args.self.now.places c.first_place-first.ensures c.push_reserved.ensures.items
