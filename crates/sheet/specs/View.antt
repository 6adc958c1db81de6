-- What the tables of the code hold.
use Rattle.std.specs.Prelude.{map, vec_items}
use Rattle.terms.specs.Tables.{nodes_in}
use Rattle.protocol.specs.Strands.{steps_of}
use Rattle.protocol.specs.Lawful.{Content}
use Rattle.entries.specs.Texts.{bytes_of}
use Rattle.sheet.specs.declared.tables.Tables.{Tables}

abbrev pub content : Tables → Content
content t = record {
  labels = map bytes_of (vec_items t.labels);
  names = map bytes_of (vec_items t.names);
  variables = map bytes_of (vec_items t.variables);
  nodes = nodes_in t.nodes;
  strands = map steps_of (vec_items t.strands);
  property = t.property;
}
