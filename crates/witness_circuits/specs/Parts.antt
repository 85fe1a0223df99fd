-- How a mapping and the parts of a test's inputs are kept.
use Rattle.std.specs.Prelude.{ℕ, []}
use Rattle.aiger.specs.Net.{Net}
use Rattle.aiger.specs.Circuit.{Circuit}
use Rattle.witness_circuits.specs.declared.mapping.Shared.{Shared}
use Rattle.witness_circuits.specs.declared.making.InputParts.{InputParts}
use Rattle.witness_circuits.specs.Mapping.{Mapping}
use Rattle.witness_circuits.specs.Tests.{test_inputs}
use Rattle.witness_circuits.specs.Made.{TestParts}

-- the mapping that is kept
abbrev pub mapping_in : Shared → Mapping
mapping_in shared = record { inputs = shared.inputs.items; latches = shared.latches.items }

-- the literals of parts
abbrev pub parts_of_test : InputParts → TestParts ℕ
parts_of_test parts =
    record {
      inputs = parts.inputs.now;
      latches = parts.latches.now;
      next_inputs = parts.next_inputs.now;
      own_inputs = parts.own_inputs.now;
      own_latches = parts.own_latches.now;
      next_own = parts.next_own.now;
    }

-- the inputs of a test, before a gate is made
abbrev pub bare_test : Circuit → Circuit → Net
bare_test c w = record { inputs = test_inputs c w; latches = 0; gates = [] }
