-- What a bench and an ended run mean.
use Rattle.std.specs.Prelude.{List}
use Rattle.terms.specs.declared.node.Node.{Node}
use Rattle.protocol.specs.Lawful.{Content}
use Rattle.runs.specs.Protocols.{Protocol}
use Rattle.runs.specs.Tables.{described}
use Rattle.playing.specs.Calls.{Situation}
use Rattle.notebook.specs.declared.interface.Notebook.{Ghosts}
use Rattle.notebook.specs.Replies.{Unchanged}
use Rattle.bench.specs.declared.bench.Bench.{Bench}
use Rattle.bench.specs.declared.ended.EndedRun.{EndedRun}
use Rattle.bench.specs.Tables as tables

-- the sheet that is played, and its protocol
abbrev pub sheet_of : {N : Type 0} {G : Ghosts N} → Bench N G → Content
sheet_of b = tables.sheet_in b.tables

abbrev pub protocol_of : {N : Type 0} {G : Ghosts N} → Bench N G → Protocol
protocol_of b = described (sheet_of b)

-- where the run stands, and what is written
abbrev pub situation_of : {N : Type 0} {G : Ghosts N} → Bench N G → Situation
situation_of b = tables.situation b.tables

-- the nodes that the run's terms have their places in
abbrev pub nodes_of : {N : Type 0} {G : Ghosts N} → Bench N G → List Node
nodes_of b = tables.nodes_of b.tables

-- both lists of the notebook are as they were
abbrev pub BookKept : {N : Type 0} {G : Ghosts N} → Bench N G → Bench N G → Type 0
BookKept {G = G} b c = Unchanged (G.nodes b.book) (G.noted b.book) (G.nodes c.book) (G.noted c.book)

-- the same of an ended run
abbrev pub sheet_ended : EndedRun → Content
sheet_ended e = tables.sheet_in e.tables

abbrev pub situation_ended : EndedRun → Situation
situation_ended e = tables.situation e.tables

abbrev pub nodes_ended : EndedRun → List Node
nodes_ended e = tables.nodes_of e.tables
