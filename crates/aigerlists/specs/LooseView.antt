-- The fields of the lists of a file as contracts see them.
use Rattle.std.specs.Prelude.{◌≡◌, ℕ}
use Rattle.aigerlists.specs.Definitions.{has_variable}
use Rattle.aigerlists.specs.Loose.{Loose, is_defined}
use Rattle.aigerlists.specs.declared.loose.Loose.TheInside.{Inside}

abbrev pub loose_of : Inside → Loose
loose_of l =
    record {
      inputs = l.inputs.items;
      latches = l.latches.items;
      gates = l.gates.items;
      outputs = l.properties.outputs.items;
      bads = l.properties.bads.items;
      constraints = l.properties.constraints.items;
      justice = l.properties.justice;
      fair = l.properties.fair.items;
      names = l.names;
    }

-- the set has the variables that lines define, and no others
abbrev pub HasDefinedSet : Inside → Type 0
HasDefinedSet l = (v : ℕ) → has_variable l.defined v ≡ is_defined (loose_of l) v
