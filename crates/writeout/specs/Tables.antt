-- A writing by its tables.
use Rattle.std.specs.Prelude.{List}
use Rattle.btor2.specs.declared.item.Item.{Item}
use Rattle.writeout.specs.declared.tables.Tables.{Tables}
use Rattle.writeout.specs.Writings.{Writing}

abbrev pub writing : Tables → List Item → Writing
writing t items = record { items = items; nodes = t.nodes.items; leaves = t.leaves.items; first = t.first }
