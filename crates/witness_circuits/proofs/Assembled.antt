-- A test as it is put together: four valuations that each valuation of its gates says, and what its bad property says of them.
use Rattle.std.proofs.Common.{◌≡◌, ℕ, ◌≤◌, Bool, [], length, All}
use Rattle.base.specs.Literal.{Valuation}
use Rattle.aiger.specs.Net.{Satisfies, net_input_bits}
use Rattle.aiger.specs.Circuit.{Circuit, IsCircuit, net}
use Rattle.witness_circuits.specs.Mapping.{Mapping, IsMappingOf}
use Rattle.witness_circuits.specs.Certificate.{bad_rises}
use Rattle.witness_circuits.specs.Tests.{test_inputs, test_cost}
use Rattle.witness_circuits.specs.Made.{IsSharedIn, TestParts, all_parts, AreAsMany, AreFourFrames, condition_fails}

-- one bad property, and nothing else but inputs, latches and gates
pub record HasOneBad (t : Circuit) : Type 0 where
  pub outputs : t.outputs ≡ []
  pub one_bad : length t.bads ≡ 1
  pub constraints : t.constraints ≡ []
  pub justice : t.justice ≡ []
  pub fair : t.fair ≡ []
  pub names : t.names ≡ []

pub record Assembled (c : Circuit) (k : ℕ) (w : Circuit) (m : Mapping) (t : Circuit) (V N X Y : Valuation → Valuation) : Type 0 where
  pub original : IsCircuit c
  pub circuit : IsCircuit w
  pub mapping : IsMappingOf w m
  pub inputs_defined : All (IsSharedIn (net c)) m.inputs
  pub latches_defined : All (IsSharedIn (net c)) m.latches
  pub test : IsCircuit t
  pub no_latches : t.latches ≡ []
  pub alone : HasOneBad t
  pub inputs : t.inputs ≡ test_inputs c w
  pub few_gates : length t.gates ≤ test_cost c w
  pub frames : (z : Valuation) (g : TestParts Bool) → Satisfies (net t) z → AreAsMany c w g → net_input_bits (net t) z ≡ all_parts g → AreFourFrames c w m g (V z) (N z) (X z) (Y z)
  pub rises : (z : Valuation) → Satisfies (net t) z → bad_rises t 0 z ≡ condition_fails c k w m (V z) (N z) (X z) (Y z)
