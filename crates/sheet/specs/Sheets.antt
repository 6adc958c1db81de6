-- What a sheet holds.
use Rattle.protocol.specs.Lawful.{Content}
use Rattle.sheet.specs.View.{content}
use Rattle.sheet.specs.declared.sheet.Sheet.{Sheet}

abbrev pub content_of : Sheet → Content
content_of s = content s.tables
