-- What the tables of a bench mean.
use Rattle.std.specs.Prelude.{List}
use Rattle.terms.specs.declared.node.Node.{Node}
use Rattle.protocol.specs.Lawful.{Content}
use Rattle.sheet.specs.Sheets.{content_of}
use Rattle.runs.specs.Protocols.{Protocol}
use Rattle.runs.specs.Tables.{described}
use Rattle.playing.specs.Calls.{Situation}
use Rattle.pages.specs.Pages.{nodes_on}
use Rattle.bench.specs.Places.{situation_in}
use Rattle.bench.specs.declared.tables.Tables.{Tables}

-- the sheet that is played
abbrev pub sheet_in : Tables → Content
sheet_in t = content_of t.sheet

abbrev pub protocol_in : Tables → Protocol
protocol_in t = described (sheet_in t)

-- the terms of the places, which the notebook is to have
abbrev pub nodes_of : Tables → List Node
nodes_of t = nodes_on t.pages

-- where the run stands, and what is written
abbrev pub situation : Tables → Situation
situation t = situation_in (nodes_of t) t.standings.items t.values t.run.items t.written.items
