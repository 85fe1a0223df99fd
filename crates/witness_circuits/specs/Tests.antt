-- The test of a witness circuit: a circuit without latches whose bad property rises for some inputs exactly where the witness circuit does not guard.
use Rattle.std.specs.Prelude.{◌≡◌, ℕ, ◌+◌, ◌*◌, ◌≤◌, Bool, true, false, ◌&&◌, not, List, [], length}
use Rattle.base.specs.Literal.{Valuation}
use Rattle.aiger.specs.Net.{Satisfies}
use Rattle.aiger.specs.Circuit.{Circuit, IsCircuit, net}
use Rattle.aiger.specs.Trace.{next_latch_bits, AreInitial}
use Rattle.witness_circuits.specs.Mapping.{Mapping, IsMappingOf}
use Rattle.witness_circuits.specs.Certificate.{constraints_hold, bad_rises, property_fails, MeetsConstraints, BeginsAtResets, IsNext}
use Rattle.witness_circuits.specs.Guards.{IsBeside, Guards}

-- whether what a witness circuit claims holds
abbrev pub claim_holds : Circuit → Valuation → Bool
claim_holds w x = constraints_hold w x && not (property_fails w x)

-- the bad property of a test rises for some inputs
pub record TestRises (t : Circuit) : Type 0 where
  pub valuation : Valuation
  pub gates : Satisfies (net t) valuation
  pub rises : bad_rises t 0 valuation ≡ true

-- the inputs of a test: those of two frames of the circuit, and its latches in the first; inputs and latches of the witness circuit in the first, and its inputs in the second
abbrev pub test_inputs : Circuit → Circuit → ℕ
test_inputs c w = c.inputs + (length c.latches + (c.inputs + (w.inputs + (length w.latches + w.inputs))))

-- its gates at most: those of both circuits twice, one for each latch, each constraint twice, and nine
abbrev pub test_cost : Circuit → Circuit → ℕ
test_cost c w = 2 * (length c.gates + length w.gates + length c.constraints + length w.constraints) + length c.latches + length w.latches + 9

-- a circuit is the test of a witness circuit for a bad property of another one: it rises where each of the three conditions of a guard fails, and nowhere else
pub record IsTestOf (c : Circuit) (k : ℕ) (w : Circuit) (m : Mapping) (t : Circuit) : Type 0 where
  pub circuit : IsCircuit w
  pub mapping : IsMappingOf w m
  -- it has inputs, gates and one bad property alone
  pub test : IsCircuit t
  pub inputs : t.inputs ≡ test_inputs c w
  pub few_gates : length t.gates ≤ test_cost c w
  pub no_latches : t.latches ≡ []
  pub no_outputs : t.outputs ≡ []
  pub one_bad : length t.bads ≡ 1
  pub no_constraints : t.constraints ≡ []
  pub no_justice : t.justice ≡ []
  pub no_fair : t.fair ≡ []
  pub no_names : t.names ≡ []
  -- it rises
  pub begins : (v x : Valuation) (own : List Bool) → MeetsConstraints c v → BeginsAtResets c v → AreInitial w.latches own → IsBeside w m v own x → claim_holds w x ≡ false → TestRises t
  pub goes_on : (v next_v x next_x : Valuation) (own : List Bool) → MeetsConstraints c v → MeetsConstraints c next_v → IsNext c v next_v
      → IsBeside w m v own x → claim_holds w x ≡ true → IsBeside w m next_v (next_latch_bits w x) next_x → claim_holds w next_x ≡ false → TestRises t
  pub excludes : (v x : Valuation) (own : List Bool) → MeetsConstraints c v → IsBeside w m v own x → claim_holds w x ≡ true → bad_rises c k v ≡ true → TestRises t
  pub only : TestRises t → Guards c k w m → ⊥
