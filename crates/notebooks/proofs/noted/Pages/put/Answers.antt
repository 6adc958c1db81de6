use Rattle.notebooks.specs.Lists.{noted_of}
use Rattle.notebooks.proofs.Rows.{put_held}
use Rattle.notebooks.proofs.noted.Pages.put.Goals as goal

pub invariant_of-self-clause-held : goal.invariant_of-self-clause-held
invariant_of-self-clause-held c = let p = c.args.self.now in put_held _ _ (noted_of p) _ _ (c.put.ensures (noted_of p)) p.held

pub returns : goal.returns
returns c = c.put.ensures (noted_of c.args.self.now)
