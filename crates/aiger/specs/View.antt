-- A circuit as contracts see it, by its lists.
use Rattle.std.specs.Prelude.{List}
use Rattle.aiger.specs.Circuit.{Circuit}
use Rattle.aiger.specs.declared.circuit.Latch.{Latch}
use Rattle.aiger.specs.declared.circuit.Circuit.TheInside.{Inside}
use Rattle.aiger.specs.declared.lists.CircuitLists.{CircuitLists}
use Rattle.aiger.specs.declared.lists.Properties.{Properties}

-- the circuit that has these lists and names
abbrev pub circuit_from : CircuitLists → Circuit
circuit_from l =
    record {
      inputs = l.inputs;
      latches = l.latches.items;
      gates = l.gates.items;
      outputs = l.properties.outputs.items;
      bads = l.properties.bads.items;
      constraints = l.properties.constraints.items;
      justice = l.properties.justice;
      fair = l.properties.fair.items;
      names = l.names;
    }

abbrev pub circuit_of : Inside → Circuit
circuit_of c = circuit_from c.lists

-- the circuit with other latches and properties
abbrev pub with_latches_and_properties : Circuit → List Latch → Properties → Circuit
with_latches_and_properties c latches p =
    record c {
      latches = latches;
      outputs = p.outputs.items;
      bads = p.bads.items;
      constraints = p.constraints.items;
      justice = p.justice;
      fair = p.fair.items;
    }
