use Rattle.pages.proofs.Telling.{key_told}
use Rattle.pages.proofs.page.PageTable.is_key.Goals as goal

pub returns : goal.returns
returns c = key_told _ c.args.self.now.lawful _ _ c.requires c.is_name.ensures
